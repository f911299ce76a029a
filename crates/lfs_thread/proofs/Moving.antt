-- The steps that put a fresh pair into the thread, each in its own terms.
use Rattle.std.proofs.Common.{ℕ, zero, suc, ◌≡◌, ◌⊎◌, inl, inr, ◌+◌, ◌-◌, ◌≤◌, ◌<◌, ◌==◌, ◌&&◌, true, false, cond, List, [], ◌∷◌, length, take, Option, Some, None, refl, sym, ap, subst, ◌∙◌, arith, map, remove}
use Rattle.std.specs.Prelude.{replicate}
use Rattle.std.proofs.lemmas.List.{take_all}
use Rattle.std.proofs.lemmas.List.Edits.{length-remove}
use Rattle.std.proofs.lemmas.List.Sums.{sum_by-take-le}
use Rattle.lfs_device.specs.declared.device.BlockDevice.{Ghosts}
use Rattle.lfs_model.specs.declared.order.NameOrder.{NameOrder}
use Rattle.lfs_model.specs.format.Slots.{slot_size}
use Rattle.lfs_model.specs.layers.Changes.{Delete}
use Rattle.lfs_model.proofs.Effects.{deletes}
use Rattle.lfs_thread.proofs.Common.{ne_eqb, same_Some, option_and_then, Blocks, RawContent, decoded_content, Disk, block_count, FitsInPair, PairContent, Tail, null_address, tail_if_not_null, Pair, BlockStates, ContentChange, PutTail, content_after_changes, changed_pair_content, content_with_changes, IsAllowedTail, CallEvent, complete_length, complete_take, completed_from, completed_parts, does_first, does_nothing, puts_tail, CanMoveNext, CanUnload, HasOldPair, IsHeader, IsKeptOnDisk, IsNextMoved, IsPairAddress, IsThreadedIn, IsUnloaded, KeepsSuperblockFirst, KeptThread, LossLeavesNextMoved, LossLeavesThreaded, LossLeavesUnloaded, NextMovedOnDisk, PairHeader, RefusesThreading, ThreadedInOnDisk, UnloadedOnDisk, complete_after, disk_of_device, disk_pair_at, header_address, header_pairs, kept_in_order, kept_view, length-map, thread_pair}
use Rattle.lfs_thread.specs.Joins.{IsJoined, JoinedOnDisk, LossLeavesJoined, pair_behind, pairs_joined}
use Rattle.lfs_thread.specs.Moves.{pair_leading_to}
use Rattle.lfs_thread.specs.Unloads.{changes_of_unload, unloaded_pair}
use Rattle.lfs_thread.specs.declared.joins.Behind.TheVariants as kind
use Rattle.lfs_thread.proofs.Changing.{IsAt, header_at_index, pair_at_index}
use Rattle.lfs_thread.proofs.Coming.{held_address}
use Rattle.lfs_thread.proofs.Keeping.{header_content, pair_on_content}

-- ---- what the commit makes

abbrev pub hard_to : ℕ × ℕ → Option Tail
hard_to fresh = Some (record { hard = true; to = fresh })

named : (disk : Disk) (fresh : ℕ × ℕ) → IsPairAddress disk fresh → block_count disk ≤ 65536 → IsAllowedTail (hard_to fresh)
named disk fresh on few =
    let f = on.first in let s = on.second in
    let real : (fresh.0 == null_address) ≡ false = ne_eqb fresh.0 null_address (λ e. absurd (omega (arith, e, f, few))) in
    ((omega (arith, f, few), omega (arith, s, few)), ap (λ b. b && fresh.1 == null_address) real)

hard_made : (c : RawContent) (fresh : ℕ × ℕ) → IsAllowedTail (hard_to fresh) → content_with_changes c (PutTail true (Some fresh) ∷ []) ≡ Some (record c { tail = hard_to fresh })
hard_made c fresh h =
    let is : tail_if_not_null true fresh ≡ hard_to fresh = ap (λ b. cond b None (hard_to fresh)) h.1 in
    does_first (PutTail true (Some fresh)) [] c (record c { tail = tail_if_not_null true fresh }) (record c { tail = tail_if_not_null true fresh }) (puts_tail c true fresh h.0) (does_nothing (record c { tail = tail_if_not_null true fresh }))
    ∙ ap (λ (x : Option Tail). Some (record c { tail = x })) is

take_removed : {X : Type 0} (k : ℕ) (xs : List X) → take k (remove xs k) ≡ take k xs
take_removed zero xs = refl
take_removed (suc k) [] = refl
take_removed (suc k) (x ∷ xs) = ap (λ ys. x ∷ ys) (take_removed k xs)

taken_count : {X : Type 0} (k : ℕ) (xs : List X) → length (take k xs) ≤ length xs
taken_count zero xs = omega arith
taken_count (suc k) [] = omega arith
taken_count (suc k) (x ∷ xs) = let less = taken_count k xs in omega (arith, less)

leave_made : (count : ℕ) (c : RawContent) (fresh : ℕ × ℕ) (keep : ℕ) → IsAllowedTail (hard_to fresh) → length c.slots ≡ count + keep → length c.slots ≤ 1000
    → content_with_changes c (changes_of_unload fresh keep count) ≡ Some (record { slots = take keep c.slots; tail = hard_to fresh; move = c.move })
leave_made zero c fresh keep allowed is few = hard_made c fresh allowed ∙ ap (λ slots. Some (record { slots = slots; tail = hard_to fresh; move = c.move })) (sym (take_all keep c.slots (omega (arith, is))))
leave_made (suc count) c fresh keep allowed is few =
    let less = length-remove c.slots keep (omega (arith, is)) in
    does_first (Delete keep) (changes_of_unload fresh keep count) c (record c { slots = remove c.slots keep }) (record { slots = take keep (remove c.slots keep); tail = hard_to fresh; move = c.move })
    (deletes c keep (omega (arith, is, few)) (omega (arith, is)))
    (leave_made count (record c { slots = remove c.slots keep }) fresh keep allowed (omega (arith, is, less)) (omega (arith, less, few)))
    ∙ ap (λ slots. Some (record { slots = slots; tail = hard_to fresh; move = c.move })) (take_removed keep c.slots)

left_complete : (raw : RawContent) (c : PairContent) (keep : ℕ) (t : Option Tail) → decoded_content raw ≡ Some c
    → decoded_content (record { slots = take keep raw.slots; tail = t; move = raw.move }) ≡ Some (record { slots = take keep c.slots; tail = t; move = c.move })
left_complete raw c keep t h =
    let parts = completed_parts raw c h in
    completed_from (record { slots = take keep raw.slots; tail = t; move = raw.move }) (take keep c.slots) (complete_take keep raw.slots c.slots parts.slots)
    ∙ ap (λ m. Some (record { slots = take keep c.slots; tail = t; move = m })) (sym parts.move)

at_some : (hs : List PairHeader) (index : ℕ) → index < length hs → (h : PairHeader) × IsAt hs index h
at_some [] index l = absurd (omega (arith, l))
at_some (h ∷ hs) zero l = (h, record { front = []; back = hs; parts = refl; place = refl })
at_some (h ∷ hs) (suc index) l =
    let r = at_some hs index (omega (arith, l)) in
    (r.0, record { front = h ∷ r.1.front; back = r.1.back; parts = ap (λ z. h ∷ z) r.1.parts; place = ap suc r.1.place })

-- the first slots stay, and the others are deleted
leave_after : (disk : Disk) (history : List CallEvent) (hs : List PairHeader) (sets : BlockStates) (index : ℕ) (fresh : ℕ × ℕ) (keep count : ℕ) → block_count disk ≤ 65536 → IsKeptOnDisk disk history hs sets → IsPairAddress disk fresh → index < length (header_pairs disk hs)
    → length (thread_pair (kept_view disk history hs sets) index).content.slots ≡ count + keep → length (thread_pair (kept_view disk history hs sets) index).content.slots ≤ 1000
    → complete_after (kept_view disk history hs sets) index (changes_of_unload fresh keep count) ≡ Some (unloaded_pair (kept_view disk history hs sets) index fresh keep).content
leave_after disk history hs sets index fresh keep count few kept on below counted some =
    let at : (h : PairHeader) × IsAt hs index h = at_some hs index (subst (λ k. index < k) (length-map hs (λ x. disk_pair_at disk (header_address x))) below) in
    let is : IsHeader disk history at.0 = header_at_index disk history hs index at.0 at.1 kept.each in
    let was = pair_at_index disk history hs sets index at.0 at.1 in
    let content_is : is.content ≡ (thread_pair (kept_view disk history hs sets) index).content = sym (ap (λ (p : Pair). p.content) (was ∙ pair_on_content disk (header_address at.0) is.content (header_content disk history at.0 is))) in
    let same_count : length is.held.slots ≡ length (thread_pair (kept_view disk history hs sets) index).content.slots = sym (complete_length is.held.slots is.content.slots (completed_parts is.held is.content is.complete).slots) ∙ ap (λ (c : PairContent). length c.slots) content_is in
    ap (λ (p : Pair). option_and_then decoded_content (changed_pair_content disk p.at (changes_of_unload fresh keep count))) was
    ∙ ap (λ r. option_and_then decoded_content (content_after_changes r (changes_of_unload fresh keep count))) is.raw
    ∙ ap (λ r. option_and_then decoded_content r) (leave_made count is.held fresh keep (named disk fresh on few) (same_count ∙ counted) (omega (arith, same_count, some)))
    ∙ left_complete is.held is.content keep (hard_to fresh) is.complete
    ∙ ap (λ (c : PairContent). Some (record { slots = take keep c.slots; tail = hard_to fresh; move = c.move })) content_is

module _ {D : Type 0} (g : Ghosts D) (order : NameOrder) (device : D) (hs : List PairHeader) (sets : BlockStates) (index : ℕ) (fresh : ℕ × ℕ) (few : length (g.blocks device) ≤ 65536) (kept : IsKeptOnDisk (disk_of_device g device) (g.history device) hs sets)
    (t : KeptThread) (is : kept_in_order g order device hs sets ≡ t) where
  pub leave_in : (keep count : ℕ) → CanUnload t index fresh keep → length (thread_pair t index).content.slots ≡ count + keep → complete_after t index (changes_of_unload fresh keep count) ≡ Some (unloaded_pair t index fresh keep).content
  leave_in keep count = subst (λ t. CanUnload t index fresh keep → length (thread_pair t index).content.slots ≡ count + keep → complete_after t index (changes_of_unload fresh keep count) ≡ Some (unloaded_pair t index fresh keep).content) is
      (λ can counted. leave_after (disk_of_device g device) (g.history device) hs sets index fresh keep count few kept (held_address (disk_of_device g device) (g.history device) hs sets fresh kept can.held) can.below counted (let n = can.fits.count in omega (arith, n)))

  -- the tail leads to the fresh pair, and all slots stay
  pub lead_in : CanMoveNext t index fresh → complete_after t index (PutTail true (Some fresh) ∷ []) ≡ Some (pair_leading_to t index fresh).content
  lead_in = subst (λ t. CanMoveNext t index fresh → complete_after t index (PutTail true (Some fresh) ∷ []) ≡ Some (pair_leading_to t index fresh).content) is (λ can.
      let old = kept_view (disk_of_device g device) (g.history device) hs sets in
      let slots = (thread_pair old index).content.slots in
      leave_after (disk_of_device g device) (g.history device) hs sets index fresh (length slots) 0 few kept (held_address (disk_of_device g device) (g.history device) hs sets fresh kept can.held) (let b = can.below in omega (arith, b)) (omega arith) (let n = can.fits.count in omega (arith, n))
      ∙ ap (λ z. Some (record { slots = z; tail = hard_to fresh; move = (thread_pair old index).content.move })) (take_all (length slots) slots (omega arith)))

-- ---- the effect of the step, and what a stop leaves, if the changes make that content

module _ (t : KeptThread) (index : ℕ) (fresh : ℕ × ℕ) (changes : List ContentChange) where
  pub threaded_from : {new : KeptThread} → IsJoined t index kind.Empty fresh changes new → IsThreadedIn t index fresh changes new
  threaded_from is = record { content = is.content; made = is.made; fits = is.fits; first = is.first; pairs = is.pairs; thread = is.thread; map = is.map }

  pub left_threaded_from : (left : Blocks) → LossLeavesJoined t index kind.Empty fresh changes left → LossLeavesThreaded t index fresh changes left
  left_threaded_from left is = record { others = is.others; content = go is.content }
    where
      go : HasOldPair t index (record t.disk { blocks = left }) ⊎ JoinedOnDisk t index kind.Empty fresh changes (record t.disk { blocks = left }) → HasOldPair t index (record t.disk { blocks = left }) ⊎ ThreadedInOnDisk t index fresh changes (record t.disk { blocks = left })
      go (inl k) = inl k
      go (inr k) = inr (record { content = k.content; made = k.made; fits = k.fits; holds = k.holds; behind = k.behind; first = k.first })

  module _ (c : PairContent) (made : complete_after t index changes ≡ Some c) where
    same_made : {x : PairContent} → complete_after t index changes ≡ Some x → x ≡ c
    same_made {x} is = same_Some x c (sym is ∙ made)

    pub never_full : {new : KeptThread} → RefusesThreading t index fresh changes new → FitsInPair t.disk.block_size t.disk.page c → ⊥
    never_full full fits = full.too_large (subst (FitsInPair t.disk.block_size t.disk.page) (sym (same_made full.made)) fits)

    first_there : {x : PairContent} (disk : Disk) → complete_after t index changes ≡ Some x → KeepsSuperblockFirst t.disk (thread_pair t index).at x disk → KeepsSuperblockFirst t.disk (thread_pair t index).at c disk
    first_there disk is first = subst (λ x. KeepsSuperblockFirst t.disk (thread_pair t index).at x disk) (same_made is) first

  module _ (made : complete_after t index changes ≡ Some (pair_leading_to t index fresh).content) where
    pub moved_from : {new : KeptThread} → IsJoined t index kind.Next fresh changes new → IsNextMoved t index fresh new
    moved_from {new = new} is = record {
      pairs = is.pairs ∙ ap (λ c. pairs_joined kind.Next t.pairs index (record { at = (thread_pair t index).at; content = c }) (pair_behind t index kind.Next fresh)) (same_made (pair_leading_to t index fresh).content made is.made);
      thread = is.thread;
      first = first_there (pair_leading_to t index fresh).content made new.disk is.made is.first;
      anew = is.anew;
      revision = is.revision;
      map = is.map;
    }

    pub left_moved_from : (left : Blocks) → LossLeavesJoined t index kind.Next fresh changes left → LossLeavesNextMoved t index fresh left
    left_moved_from left is = record { others = is.others; content = go is.content }
      where
        go : HasOldPair t index (record t.disk { blocks = left }) ⊎ JoinedOnDisk t index kind.Next fresh changes (record t.disk { blocks = left }) → HasOldPair t index (record t.disk { blocks = left }) ⊎ NextMovedOnDisk t index fresh (record t.disk { blocks = left })
        go (inl k) = inl k
        go (inr k) = inr (record {
          leads = k.holds ∙ ap Some (same_made (pair_leading_to t index fresh).content made k.made);
          moved = k.behind;
          first = first_there (pair_leading_to t index fresh).content made (record t.disk { blocks = left }) k.made k.first;
          anew = k.anew;
        })

  module _ (keep : ℕ) (made : complete_after t index changes ≡ Some (unloaded_pair t index fresh keep).content) where
    pub unloaded_from : {new : KeptThread} → IsJoined t index kind.Slots fresh changes new → IsUnloaded t index fresh keep new
    unloaded_from {new = new} is = record {
      pairs = is.pairs ∙ ap (λ c. pairs_joined kind.Slots t.pairs index (record { at = (thread_pair t index).at; content = c }) (pair_behind t index kind.Slots fresh)) (same_made (unloaded_pair t index fresh keep).content made is.made);
      thread = is.thread;
      first = first_there (unloaded_pair t index fresh keep).content made new.disk is.made is.first;
      revision = is.revision;
      map = is.map;
    }

    pub left_unloaded_from : (left : Blocks) → LossLeavesJoined t index kind.Slots fresh changes left → LossLeavesUnloaded t index fresh keep left
    left_unloaded_from left is = record { others = is.others; content = go is.content }
      where
        go : HasOldPair t index (record t.disk { blocks = left }) ⊎ JoinedOnDisk t index kind.Slots fresh changes (record t.disk { blocks = left }) → HasOldPair t index (record t.disk { blocks = left }) ⊎ UnloadedOnDisk t index fresh keep (record t.disk { blocks = left })
        go (inl k) = inl k
        go (inr k) = inr (record {
          keeps = k.holds ∙ ap Some (same_made (unloaded_pair t index fresh keep).content made k.made);
          behind = k.behind;
          first = first_there (unloaded_pair t index fresh keep).content made (record t.disk { blocks = left }) k.made k.first;
        })

-- fewer slots fit, too
pub fewer_fit : (block_size page keep : ℕ) (c : PairContent) (tail : Option Tail) → FitsInPair block_size page c → FitsInPair block_size page (record c { slots = take keep c.slots; tail = tail })
fewer_fit block_size page keep c tail fits = record {
  size = let less = sum_by-take-le slot_size c.slots keep in let all = fits.size in omega (arith, less, all);
  count = let less = taken_count keep c.slots in let all = fits.count in omega (arith, less, all);
}

-- how many slots go
pub gone_count : {held slots from keep : ℕ} → held ≡ slots → from ≡ keep → keep ≤ slots → slots ≡ held - from + keep
gone_count all kept some = omega (arith, all, kept, some)

pub map_replicate : {X Y : Type 0} (g : X → Y) (n : ℕ) (x : X) → map g (replicate n x) ≡ replicate n (g x)
map_replicate g zero x = refl
map_replicate g (suc n) x = ap (λ ys. g x ∷ ys) (map_replicate g n x)
