-- The fresh pair of a step is written: its conditions, and its content.
use Rattle.std.proofs.Common.{ℕ, ◌≡◌, ◌+◌, ◌%◌, ◌^◌, ◌<◌, ◌≤◌, ◌==◌, ◌&&◌, true, false, cond, List, [], ◌∷◌, ◌++◌, Option, Some, None, sym, ap, ap₂, subst, ◌∙◌, arith, not, slice_get, flat_map}
use Rattle.lfs_thread.proofs.Common.{ne_eqb, same_Some, map-append, Blocks, option_map, tail_view, completed_from, completed_parts, fits_raw, nothing_logged, superblock_anew, HasFirstLogEntry, superblock_entry, BlockStates, Disk, block_count, disk_block, CallEvent, FitsInPair, Gstate, LogEntry, PairContent, Tail, zero_gstate, null_address, AreNamed, AreWellFormed, IsAllowedTail, ContentChange, PutMove, PutTail, content_with_changes, content_after_changes, does_first, does_nothing, puts_tail, RawContent, empty_raw_content, raw_content, decoded_content, current_block, tail_if_not_null, Pair, AreLinkedByTails, superblock_pair_address, tail_target, AreHeaders, CanCopyPair, HasSuperblock, IsHeader, IsKeptOnDisk, IsPairAddress, IsPairCopied, KeepsOutsidePair, PairHeader, disk_pair_at, header_address, header_pairs, kept_view, pair_revision, tail_change, thread_pair, KeptThread}
use Rattle.lfs_model.specs.format.Content.{later_committed_block, has_commit, is_later}
use Rattle.lfs_model.specs.format.Log.{block_revision}
use Rattle.lfs_model.specs.layers.LoggedContent.{AreU32Addresses, is_null}
use Rattle.lfs_model.specs.layers.WrittenContent.{content_entries}
use Rattle.lfs_model.proofs.Effects.{ends_tail, puts_move}
use Rattle.lfs_pair.specs.FreshPair.{CanMakeFresh}
use Rattle.lfs_thread.specs.Joins.{CanHold, CanWriteBehind, HasNextRevision, IsWrittenBehind, pair_behind, source_index}
use Rattle.lfs_thread.specs.Moves.{BeginsWithAnySuperblock}
use Rattle.lfs_thread.specs.declared.joins.Behind.{Behind}
use Rattle.lfs_thread.specs.declared.joins.Behind.TheVariants as kind
use Rattle.lfs_thread.proofs.Keeping.{headers_right, header_content, pair_on_content}
use Rattle.lfs_thread.proofs.Changing.{IsAt, completes, header_at_index, pair_at_index}

-- ---- without slots

fresh_made : (t : Option Tail) → IsAllowedTail t → content_with_changes empty_raw_content (tail_change t ∷ []) ≡ Some (record { slots = []; tail = t; move = zero_gstate })
fresh_made None h = does_first (PutTail false None) [] empty_raw_content (record empty_raw_content { tail = None }) (record empty_raw_content { tail = None }) (ends_tail empty_raw_content false) (does_nothing (record empty_raw_content { tail = None }))
fresh_made (Some t) h =
    let is : tail_if_not_null t.hard t.to ≡ Some t = ap (λ b. cond b None (Some t)) h.1 in
    does_first (PutTail t.hard (Some t.to)) [] empty_raw_content (record empty_raw_content { tail = tail_if_not_null t.hard t.to }) (record empty_raw_content { tail = tail_if_not_null t.hard t.to }) (puts_tail empty_raw_content t.hard t.to h.0)
    (does_nothing (record empty_raw_content { tail = tail_if_not_null t.hard t.to }))
    ∙ ap (λ (x : Option Tail). Some (record { slots = []; tail = x; move = zero_gstate })) is

can_be_fresh : (disk : Disk) (fresh : ℕ × ℕ) (t : Option Tail) → IsPairAddress disk fresh → IsAllowedTail t → CanMakeFresh disk fresh (tail_change t ∷ [])
can_be_fresh disk fresh t on h = record {
  address = on;
  new = record { slots = []; tail = t; move = zero_gstate };
  changed = fresh_made t h;
  names = tt;
  fits = record { size = omega arith; count = omega arith };
}

-- the tail of a pair of the thread names a pair of the disk
tail_named : (disk : Disk) (history : List CallEvent) (hs : List PairHeader) (sets : BlockStates) (index : ℕ) (h : PairHeader) → IsAt hs index h → IsKeptOnDisk disk history hs sets → block_count disk ≤ 65536
    → IsAllowedTail (disk_pair_at disk (header_address h)).content.tail
tail_named disk history hs sets index h a kept few = go (disk_pair_at disk (header_address h)).content.tail a.back (behind a.front (Some superblock_pair_address) links) (headers_right disk history a.front (h ∷ a.back) each).1
  where
    each : AreHeaders disk history (a.front ++ h ∷ a.back)
    each = subst (AreHeaders disk history) a.parts kept.each

    links : AreLinkedByTails (Some superblock_pair_address) (header_pairs disk a.front ++ disk_pair_at disk (header_address h) ∷ header_pairs disk a.back)
    links = subst (AreLinkedByTails (Some superblock_pair_address)) (ap (header_pairs disk) a.parts ∙ map-append (λ x. disk_pair_at disk (header_address x)) a.front (h ∷ a.back)) kept.links

    behind : (front : List PairHeader) (from : Option (ℕ × ℕ)) → AreLinkedByTails from (header_pairs disk front ++ disk_pair_at disk (header_address h) ∷ header_pairs disk a.back)
        → AreLinkedByTails (tail_target (disk_pair_at disk (header_address h)).content.tail) (header_pairs disk a.back)
    behind [] from l = l.1
    behind (x ∷ front) from l = behind front (tail_target (disk_pair_at disk (header_address x)).content.tail) l.1

    go : (t : Option Tail) (back : List PairHeader) → AreLinkedByTails (tail_target t) (header_pairs disk back) → AreHeaders disk history back → IsAllowedTail t
    go None back l are = tt
    go (Some t) [] l are = absurd (cc)
    go (Some t) (x ∷ back) l are =
        let same : t.to ≡ header_address x = same_Some t.to (header_address x) l.0 in
        let f = are.0.address.first in let s = are.0.address.second in
        let real : (header_address x).0 == null_address ≡ false = ne_eqb (header_address x).0 null_address (λ e. absurd (omega (arith, e, f, few))) in
        subst (λ (to : ℕ × ℕ). AreU32Addresses to × (is_null to ≡ false)) (sym same) ((omega (arith, f, few), omega (arith, s, few)), ap (λ b. b && (header_address x).1 == null_address) real)

header_tail : (disk : Disk) (history : List CallEvent) (h : PairHeader) → IsHeader disk history h → (disk_pair_at disk (header_address h)).content.tail ≡ option_map tail_view h.tail
header_tail disk history h is = ap (λ (q : Pair). q.content.tail) (pair_on_content disk (header_address h) is.content (header_content disk history h is))
    ∙ (completed_parts is.held is.content is.complete).tail ∙ sym is.is_pair.describes.sums.tail

-- ---- a copy

complete_with_move : (raw : RawContent) (c : PairContent) (m : Gstate) → decoded_content raw ≡ Some c → decoded_content (record raw { move = m }) ≡ Some (record c { move = m })
complete_with_move raw c m h =
    let parts = completed_parts raw c h in
    completed_from (record raw { move = m }) c.slots parts.slots ∙ ap (λ t. Some (record { slots = c.slots; tail = t; move = m })) (sym parts.tail)

-- the revision that a header says
pub revision_at : (disk : Disk) (history : List CallEvent) (h : PairHeader) → IsHeader disk history h → pair_revision disk (header_address h) ≡ Some h.revision
revision_at disk history h is = ap (option_map block_revision) is.is_pair.holds ∙ ap Some (sym is.is_pair.describes.revision)

pub revision_there : (disk : Disk) (history : List CallEvent) (hs : List PairHeader) (sets : BlockStates) (index : ℕ) (h : PairHeader) → IsAt hs index h → IsKeptOnDisk disk history hs sets
    → pair_revision disk (thread_pair (kept_view disk history hs sets) index).at ≡ Some h.revision
revision_there disk history hs sets index h a kept =
    ap (λ (p : Pair). pair_revision disk p.at) (pair_at_index disk history hs sets index h a) ∙ revision_at disk history h (header_at_index disk history hs index h a kept.each)

first_of : (xs ys : List LogEntry) (e : LogEntry) → slice_get xs 0 ≡ Some e → slice_get (xs ++ ys) 0 ≡ Some e
first_of [] ys e h = absurd (cc)
first_of (x ∷ xs) ys e h = h

-- the first block holds, since no log is in the second
first_holds : (a b : List ℕ) → has_commit a ≡ true → has_commit b ≡ false → later_committed_block a b ≡ Some a
first_holds a b first second =
    ap₂ (λ p q. cond (not p) (cond q (Some b) None) (cond (q && is_later (block_revision a) (block_revision b)) (Some b) (Some a))) first second

-- The header of the fresh pair: it has the content of the step, and the revision after that of the pair that was copied.
pub record IsBehindHeader (old : KeptThread) (index : ℕ) (b : Behind) (fresh : ℕ × ℕ) (disk : Disk) (history : List CallEvent) (f : PairHeader) : Type 0 where
  pub header : IsHeader disk history f
  pub at : header_address f ≡ fresh
  pub content : header.content ≡ (pair_behind old index b fresh).content
  pub anew : BeginsWithAnySuperblock (pair_behind old index b fresh) disk
  pub revision : (d : Disk) → pair_revision d fresh ≡ Some f.revision → HasNextRevision old index b fresh d

module _ (disk : Disk) (history : List CallEvent) (hs : List PairHeader) (sets : BlockStates) (i : ℕ) (x : PairHeader) (fresh : ℕ × ℕ) (a : IsAt hs i x) (kept : IsKeptOnDisk disk history hs sets) (on : IsPairAddress disk fresh) where
  abbrev old : KeptThread
  old = kept_view disk history hs sets

  abbrev pub is : IsHeader disk history x
  is = header_at_index disk history hs i x a kept.each

  content_is : is.content ≡ (thread_pair old i).content
  content_is = sym (ap (λ (p : Pair). p.content) (pair_at_index disk history hs sets i x a ∙ pair_on_content disk (header_address x) is.content (header_content disk history x is)))

  module _ (changes : List ContentChange) (m : Gstate) (made : content_with_changes is.held changes ≡ Some (record is.held { move = m })) where
    copy_can : FitsInPair disk.block_size disk.page (thread_pair old i).content → CanCopyPair disk history x fresh changes
    copy_can held =
        let fits = fits_raw disk.block_size disk.page is.held is.content is.is_pair.describes.logged is.complete (subst (FitsInPair disk.block_size disk.page) (sym content_is) held) in
        record {
          commit = record {
            address = is.address;
            held = is.held;
            is_pair = is.is_pair;
            new = record is.held { move = m };
            changed = made;
            names = let all = completes (Some is.held) is.content is.complete in subst (λ (r : RawContent). AreNamed r.slots) (sym (same_Some is.held all.raw all.is)) all.names;
          };
          fits = record { size = fits.size; count = fits.count };
          fresh_is = on;
        }

    module _ (mid : Blocks) (then : List CallEvent) (others : KeepsOutsidePair fresh disk.blocks mid) (f : PairHeader) (copied : IsPairCopied disk history changes x (record disk { blocks = mid }) then fresh f) where
      abbrev beside : Disk
      beside = record disk { blocks = mid }

      same_new : copied.new ≡ record is.held { move = m }
      same_new = same_Some copied.new (record is.held { move = m }) (sym copied.made ∙ ap (λ r. content_after_changes r changes) is.raw ∙ made)

      abbrev copy_header : IsHeader beside then f
      copy_header = record {
        address = subst (IsPairAddress beside) (sym copied.holds.same) (record {
          apart = on.apart;
          first = subst (λ k. fresh.0 < k) (sym others.count) on.first;
          second = subst (λ k. fresh.1 < k) (sym others.count) on.second;
        });
        held = copied.new;
        is_pair = copied.holds.is_pair;
        raw = ap (raw_content beside) copied.holds.same ∙ copied.holds.content;
        content = record is.content { move = m };
        complete = ap decoded_content same_new ∙ complete_with_move is.held is.content m is.complete;
      }

      copy_content : (record is.content { move = m }) ≡ record (thread_pair old i).content { move = m }
      copy_content = ap (λ (c : PairContent). record c { move = m }) content_is

      -- a compacted log begins with the superblock's entry, if slot 0 is the superblock
      copy_first : HasSuperblock (record (thread_pair old i).content { move = m }) → HasFirstLogEntry (current_block beside fresh) superblock_entry
      copy_first has =
          let full = subst HasSuperblock (sym copy_content) has in
          subst (λ o. HasFirstLogEntry o superblock_entry) (sym (first_holds (disk_block beside fresh.0) (disk_block beside fresh.1) copied.fresh_is.anew.has_commit copied.fresh_is.cleared))
          (ap (λ (cs : List (List LogEntry)). slice_get (flat_map (λ c. c) cs) 0) copied.fresh_is.anew.commits
          ∙ first_of (content_entries copied.new ++ copied.fresh_is.anew.checksum ∷ []) [] superblock_entry (first_of (content_entries copied.new) (copied.fresh_is.anew.checksum ∷ []) superblock_entry
          (superblock_anew copied.new (record is.content { move = m }) (subst (λ (r : RawContent). AreWellFormed r.slots) (sym same_new) is.is_pair.describes.logged.slots) copy_header.complete full.0 full.1)))

      copy_revision : (d : Disk) → pair_revision d fresh ≡ Some f.revision → pair_revision d fresh ≡ option_map (λ r. (r + 1) % 2 ^ 32) (pair_revision disk (thread_pair old i).at)
      copy_revision d e = e ∙ ap Some copied.fresh_is.revision_is ∙ sym (ap (option_map (λ r. (r + 1) % 2 ^ 32)) (revision_there disk history hs sets i x a kept))

-- ---- by what the step puts behind

without_delta : (c : RawContent) → content_with_changes c (PutMove zero_gstate ∷ []) ≡ Some (record c { move = zero_gstate })
without_delta c = does_first (PutMove zero_gstate) [] c (record c { move = zero_gstate }) (record c { move = zero_gstate }) (puts_move c zero_gstate nothing_logged.move) (does_nothing (record c { move = zero_gstate }))

pub can_write : (b : Behind) (disk : Disk) (history : List CallEvent) (hs : List PairHeader) (sets : BlockStates) (index : ℕ) (source : PairHeader) (fresh : ℕ × ℕ) → IsAt hs (source_index index b) source → IsKeptOnDisk disk history hs sets → IsPairAddress disk fresh
    → block_count disk ≤ 65536 → CanHold (kept_view disk history hs sets) index b → CanWriteBehind disk history source fresh b
can_write kind.Empty disk history hs sets index source fresh a kept on few holds =
    subst (λ y. CanMakeFresh disk fresh (tail_change y ∷ [])) (header_tail disk history source (header_at_index disk history hs index source a kept.each))
    (can_be_fresh disk fresh (disk_pair_at disk (header_address source)).content.tail on (tail_named disk history hs sets index source a kept few))
can_write kind.Slots disk history hs sets index source fresh a kept on few holds =
    let is = header_at_index disk history hs index source a kept.each in
    copy_can disk history hs sets index source fresh a kept on (PutMove zero_gstate ∷ []) zero_gstate (without_delta is.held) holds
can_write kind.Next disk history hs sets index source fresh a kept on few holds =
    let is = header_at_index disk history hs (index + 1) source a kept.each in
    copy_can disk history hs sets (index + 1) source fresh a kept on [] is.held.move (does_nothing is.held) holds.1

pub written_header : (b : Behind) (disk : Disk) (history : List CallEvent) (hs : List PairHeader) (sets : BlockStates) (index : ℕ) (source : PairHeader) (fresh : ℕ × ℕ) → IsAt hs (source_index index b) source → IsKeptOnDisk disk history hs sets → IsPairAddress disk fresh
    → block_count disk ≤ 65536 → (mid : Blocks) (then : List CallEvent) → KeepsOutsidePair fresh disk.blocks mid → (f : PairHeader) → IsWrittenBehind disk history source b (record disk { blocks = mid }) then fresh f
    → IsBehindHeader (kept_view disk history hs sets) index b fresh (record disk { blocks = mid }) then f
written_header kind.Empty disk history hs sets index source fresh a kept on few mid then others f written =
    let t = (disk_pair_at disk (header_address source)).content.tail in
    let is = header_at_index disk history hs index source a kept.each in
    let is_made = ap (λ y. content_with_changes empty_raw_content (tail_change y ∷ [])) (sym (header_tail disk history source is)) in
    let on_later : IsPairAddress (record disk { blocks = mid }) fresh = record {
      apart = on.apart;
      first = subst (λ k. fresh.0 < k) (sym others.count) on.first;
      second = subst (λ k. fresh.1 < k) (sym others.count) on.second;
    } in
    record {
      header = record {
        address = subst (IsPairAddress (record disk { blocks = mid })) (sym written.holds.same) on_later;
        held = written.new;
        is_pair = written.holds.is_pair;
        raw = ap (raw_content (record disk { blocks = mid })) written.holds.same ∙ written.holds.content;
        content = record { slots = []; tail = t; move = zero_gstate };
        complete = ap decoded_content (same_Some written.new (record { slots = []; tail = t; move = zero_gstate }) (sym written.made ∙ is_made ∙ fresh_made t (tail_named disk history hs sets index source a kept few)));
      };
      at = written.holds.same;
      content = ap (λ (p : Pair). record { slots = []; tail = p.content.tail; move = zero_gstate }) (sym (pair_at_index disk history hs sets index source a));
      anew = λ has. absurd (let e = has.1 in cc);
      revision = λ d e. tt;
    }
written_header kind.Slots disk history hs sets index source fresh a kept on few mid then others f written =
    let is = header_at_index disk history hs index source a kept.each in
    let made = without_delta is.held in
    record {
      header = copy_header disk history hs sets index source fresh a kept on (PutMove zero_gstate ∷ []) zero_gstate made mid then others f written;
      at = written.holds.same;
      content = copy_content disk history hs sets index source fresh a kept on (PutMove zero_gstate ∷ []) zero_gstate made mid then others f written;
      anew = copy_first disk history hs sets index source fresh a kept on (PutMove zero_gstate ∷ []) zero_gstate made mid then others f written;
      revision = copy_revision disk history hs sets index source fresh a kept on (PutMove zero_gstate ∷ []) zero_gstate made mid then others f written;
    }
written_header kind.Next disk history hs sets index source fresh a kept on few mid then others f written =
    let is = header_at_index disk history hs (index + 1) source a kept.each in
    let made = does_nothing is.held in
    let m = is.held.move in
    let same : record (thread_pair (kept_view disk history hs sets) (index + 1)).content { move = m } ≡ (thread_pair (kept_view disk history hs sets) (index + 1)).content =
    ap (λ k. record (thread_pair (kept_view disk history hs sets) (index + 1)).content { move = k }) (sym (completed_parts is.held is.content is.complete).move ∙ ap (λ (c : PairContent). c.move) (content_is disk history hs sets (index + 1) source fresh a kept on)) in
    record {
      header = copy_header disk history hs sets (index + 1) source fresh a kept on [] m made mid then others f written;
      at = written.holds.same;
      content = copy_content disk history hs sets (index + 1) source fresh a kept on [] m made mid then others f written ∙ same;
      anew = λ has. copy_first disk history hs sets (index + 1) source fresh a kept on [] m made mid then others f written (subst HasSuperblock (sym same) has);
      revision = copy_revision disk history hs sets (index + 1) source fresh a kept on [] m made mid then others f written;
    }
