-- How many blocks an operation allocates: for its edits, and in all.
use Rattle.std.proofs.Common.{ℕ, ◌≡◌, ◌≤◌, ◌+◌, ◌*◌, ◌∙◌, inr, List, [], ◌∷◌, ◌++◌, length, Option, Some, None, refl, sym, ap, subst, arith, flat_map, length-append}
use Rattle.std.specs.Prelude.{sum_by}
use Rattle.lfs_tree.proofs.Common.{recursion_from_All, sum_by-append, sum_by-cons, last_name, attributes_with, attributes_without, Disk, IsFittingPair, IsUnreachedOrRemoved, IsLayoutAfterRecovery, IsLayoutAfterOperation, Name, Operation, Session, slot_of_path, pair_with_slots, pairs_without_moved, FitsInPair, Slot, slot_size, path_or_root, Pair, pairs_gstate, count_before_root, Node, Path, Tree, Each, each_append, each_left, each_right, IsWritable, SameGeometry, used_blocks}
use Rattle.lfs_model.specs.session.Operations as ops
use Rattle.lfs_model.specs.session.SlotEdits.{RemovesSlot, AddsFile, EditsSlots, ReplacesSlots, AddsDirectory, MovesSlot, ReplacesSlot, directory_slot, file_slot}
use Rattle.lfs_model.proofs.RawSlots.{fewer_attributes}
use Rattle.lfs_tree.specs.KeptFiles.{max_allocated_blocks}
use Rattle.lfs_tree.proofs.TakenBlocks.{FitBut, all_few, all_fit, fit_unmoved, list_length, lists_append, lists_in, lists_of, parts_fit, some_fit, total, total_append, total_unmoved, used_total}

-- ---- slots that are replaced by others

module _ (disk : Disk) (olds news : List Slot) (old new : List Pair) (s : ReplacesSlots olds news old new) where
  abbrev now : Pair
  now = pair_with_slots (s.left ++ (news ++ s.right)) s.pair

  sums_was : (f : Slot → ℕ) → sum_by f s.pair.content.slots ≡ sum_by f s.left + (sum_by f olds + sum_by f s.right)
  sums_was f = ap (sum_by f) s.held ∙ sum_by-append f s.left (olds ++ s.right) ∙ ap (λ n. sum_by f s.left + n) (sum_by-append f olds s.right)

  sums_now : (f : Slot → ℕ) → sum_by f now.content.slots ≡ sum_by f s.left + (sum_by f news + sum_by f s.right)
  sums_now f = sum_by-append f s.left (news ++ s.right) ∙ ap (λ n. sum_by f s.left + n) (sum_by-append f news s.right)

  count_was : length s.pair.content.slots ≡ length s.left + (length olds + length s.right)
  count_was = ap length s.held ∙ length-append s.left (olds ++ s.right) ∙ ap (λ n. length s.left + n) (length-append olds s.right)

  count_now : length now.content.slots ≡ length s.left + (length news + length s.right)
  count_now = length-append s.left (news ++ s.right) ∙ ap (λ n. length s.left + n) (length-append news s.right)

  pub splice_lists : lists_of disk.block_size new + lists_in disk.block_size olds ≡ lists_of disk.block_size old + lists_in disk.block_size news
  splice_lists =
      let f = λ (x : Slot). list_length disk.block_size x.struct in
      let a = ap (lists_of disk.block_size) s.was in
      let b = ap (lists_of disk.block_size) s.is in
      let c = lists_append disk.block_size s.before (s.pair ∷ s.after) in
      let d = lists_append disk.block_size s.before (now ∷ s.after) in
      let e = sums_was f in
      let g = sums_now f in
      omega arith

  pub splice_length : length new ≡ length old
  splice_length =
      let a = ap length s.was in
      let b = ap length s.is in
      let c = length-append s.before (s.pair ∷ s.after) in
      let d = length-append s.before (now ∷ s.after) in
      omega arith

  front_fits : Each (IsFittingPair disk) old → Each (IsFittingPair disk) s.before
  front_fits h = each_left (IsFittingPair disk) s.before (s.pair ∷ s.after) (subst (Each (IsFittingPair disk)) s.was h)

  rest_fits : Each (IsFittingPair disk) old → IsFittingPair disk s.pair × Each (IsFittingPair disk) s.after
  rest_fits h = each_right (IsFittingPair disk) s.before (s.pair ∷ s.after) (subst (Each (IsFittingPair disk)) s.was h)

  -- one pair may have to be split
  pub splice_cut : Each (IsFittingPair disk) old → FitBut disk 1 new
  splice_cut h = subst (FitBut disk 1) (sym s.is) (some_fit disk 1 s.before (now ∷ s.after) (front_fits h) (inr (0, (refl, all_fit disk 0 s.after (rest_fits h).1))))

  -- or none, if the new slot is no larger
  pub splice_fits : sum_by slot_size news ≤ sum_by slot_size olds → length news ≤ length olds → Each (IsFittingPair disk) old → Each (IsFittingPair disk) new
  splice_fits less few h = subst (Each (IsFittingPair disk)) (sym s.is) (each_append (IsFittingPair disk) s.before (now ∷ s.after) (front_fits h) (here, (rest_fits h).1))
    where
      here : IsFittingPair disk now
      here = record {
        size = (let a = sums_was slot_size in let b = sums_now slot_size in let k = (rest_fits h).0.size in omega arith);
        count = (let a = count_was in let b = count_now in let k = (rest_fits h).0.count in omega arith);
      }

-- ---- what an operation makes of the slots

-- At most `cuts` of the drafted pairs have to be split, and all pairs together need at most `most` more blocks.
record IsDrafted (disk : Disk) (old fresh drafts : List Pair) (most : ℕ) : Type 0 where
  cuts : ℕ
  few : FitBut disk cuts drafts
  same : length drafts ≡ length old
  taken : lists_of disk.block_size drafts + total disk.block_size fresh + 2 * cuts ≤ lists_of disk.block_size old + most

total_none : (n : ℕ) → total n [] ≡ 0
total_none n = refl

module _ (disk : Disk) where
  abbrev size : ℕ
  size = disk.block_size

  stays_drafted : (old fresh drafts : List Pair) → Each (IsFittingPair disk) old → (fresh ≡ []) × (drafts ≡ old) → IsDrafted disk old fresh drafts 0
  stays_drafted old fresh drafts h (none, same) = record {
    cuts = 0;
    few = subst (FitBut disk 0) (sym same) (all_fit disk 0 old h);
    same = ap length same;
    taken = (let a = ap (lists_of size) same in let b = ap (total size) none in let c = total_none size in omega arith);
  }

  more_drafted : (old fresh drafts : List Pair) (n m : ℕ) → n ≤ m → IsDrafted disk old fresh drafts n → IsDrafted disk old fresh drafts m
  more_drafted old fresh drafts n m le d = record { cuts = d.cuts; few = d.few; same = d.same; taken = (let t = d.taken in omega arith) }

  -- some slots are replaced by others with no more blocks
  spliced_drafted : (old fresh drafts : List Pair) (olds news : List Slot) → Each (IsFittingPair disk) old → fresh ≡ [] → ReplacesSlots olds news old drafts → lists_in size news ≤ lists_in size olds → IsDrafted disk old fresh drafts 2
  spliced_drafted old fresh drafts olds news h none s le = record {
    cuts = 1;
    few = splice_cut disk olds news old drafts s h;
    same = splice_length disk olds news old drafts s;
    taken = (let a = splice_lists disk olds news old drafts s in let b = ap (total size) none in let c = total_none size in omega arith);
  }

  -- and are no larger
  shrunk_drafted : (old fresh drafts : List Pair) (olds news : List Slot) → Each (IsFittingPair disk) old → fresh ≡ [] → ReplacesSlots olds news old drafts → lists_in size news ≤ lists_in size olds
      → sum_by slot_size news ≤ sum_by slot_size olds → length news ≤ length olds → IsDrafted disk old fresh drafts 0
  shrunk_drafted old fresh drafts olds news h none s le less few = record {
    cuts = 0;
    few = all_fit disk 0 drafts (splice_fits disk olds news old drafts s less few h);
    same = splice_length disk olds news old drafts s;
    taken = (let a = splice_lists disk olds news old drafts s in let b = ap (total size) none in let c = total_none size in omega arith);
  }

  one_list : (f : Slot → ℕ) (s : Slot) → sum_by f (s ∷ []) ≡ f s
  one_list f s = let e = sum_by-cons f s [] in omega arith

  created : (node : Option Node) (name : Name) (old fresh drafts : List Pair) → Each (IsFittingPair disk) old → fresh ≡ [] → AddsFile node name old drafts → IsDrafted disk old fresh drafts 2
  created None name old fresh drafts h none s = spliced_drafted old fresh drafts [] (file_slot name ∷ []) h none s (let e = one_list (λ (x : Slot). list_length size x.struct) (file_slot name) in omega arith)
  created (Some node) name old fresh drafts h none same = more_drafted old fresh drafts 0 2 (omega arith) (stays_drafted old fresh drafts h (none, same))

  made : (name : Name) (fresh old drafts : List Pair) → Each (IsFittingPair disk) old → AddsDirectory name fresh old drafts → IsDrafted disk old fresh drafts 4
  made name [] old drafts h m = absurd m
  made name (p ∷ []) old drafts h m = record {
    cuts = 1;
    few = splice_cut disk [] (directory_slot name p.at ∷ []) old drafts m.1 h;
    same = splice_length disk [] (directory_slot name p.at ∷ []) old drafts m.1;
    taken = (
        let a = splice_lists disk [] (directory_slot name p.at ∷ []) old drafts m.1 in
        let e = one_list (λ (x : Slot). list_length size x.struct) (directory_slot name p.at) in
        let f = ap (lists_in size) m.0 in
        omega arith);
  }
  made name (p ∷ q ∷ fresh) old drafts h m = absurd m

  cleared : (o : Option Slot) (left rest : List Pair) → Each (IsFittingPair disk) left → RemovesSlot o left rest → Each (IsFittingPair disk) rest × ((length rest ≡ length left) × (lists_of size rest ≤ lists_of size left))
  cleared None left rest h same = (subst (Each (IsFittingPair disk)) (sym same) h, (ap length same, let a = ap (lists_of size) same in omega arith))
  cleared (Some u) left rest h s = (
    splice_fits disk (u ∷ []) [] left rest s (omega arith) (omega arith) h,
    (splice_length disk (u ∷ []) [] left rest s, let a = splice_lists disk (u ∷ []) [] left rest s in omega arith),
  )

  moved : (ps : List Pair) (from to : Path) (old fresh drafts : List Pair) → Each (IsFittingPair disk) old → fresh ≡ [] → MovesSlot ps from to old drafts → IsDrafted disk old fresh drafts 2
  moved ps from to old fresh drafts h none (u, left, rest, (at, taken, clears, placed)) =
      let gone = splice_fits disk (u ∷ []) [] old left taken (omega arith) (omega arith) h in
      let c = cleared (slot_of_path ps to) left rest gone clears in
      record {
        cuts = 1;
        few = splice_cut disk [] (record u { name = last_name to } ∷ []) rest drafts placed c.0;
        same = splice_length disk [] (record u { name = last_name to } ∷ []) rest drafts placed ∙ c.1.0 ∙ splice_length disk (u ∷ []) [] old left taken;
        taken = (
            let a = splice_lists disk (u ∷ []) [] old left taken in
            let b = splice_lists disk [] (record u { name = last_name to } ∷ []) rest drafts placed in
            let d = c.1.1 in
            let e = one_list (λ (x : Slot). list_length size x.struct) u in
            let f = one_list (λ (x : Slot). list_length size x.struct) (record u { name = last_name to }) in
            let g = ap (total size) none in
            let i = total_none size in
            omega arith);
      }

  set : (ps : List Pair) (path : Path) (kind : ℕ) (bytes : List ℕ) (old fresh drafts : List Pair) → Each (IsFittingPair disk) old → fresh ≡ []
      → ReplacesSlot (λ u v. v ≡ record u { attributes = attributes_with kind bytes u.attributes }) ps path old drafts → IsDrafted disk old fresh drafts 2
  set ps path kind bytes old fresh drafts h none (u, v, (at, is, s)) = spliced_drafted old fresh drafts (u ∷ []) (v ∷ []) h none s (
      let f = λ (x : Slot). list_length size x.struct in
      let e = one_list f u in
      let g = one_list f v in
      let i = ap f is in
      omega arith)

  unset : (ps : List Pair) (path : Path) (kind : ℕ) (old fresh drafts : List Pair) → Each (IsFittingPair disk) old → fresh ≡ []
      → ReplacesSlot (λ u v. v ≡ record u { attributes = attributes_without kind u.attributes }) ps path old drafts → IsDrafted disk old fresh drafts 0
  unset ps path kind old fresh drafts h none (u, v, (at, is, s)) = shrunk_drafted old fresh drafts (u ∷ []) (v ∷ []) h none s (
      let f = λ (x : Slot). list_length size x.struct in
      let e = one_list f u in
      let g = one_list f v in
      let i = ap f is in
      omega arith) (
      let e = one_list slot_size u in
      let g = one_list slot_size v in
      let i = ap slot_size is in
      let k = fewer_attributes kind u.attributes in
      omega arith) (omega arith)

  abbrev asked_in : Tree → Session
  asked_in tree = record { tree = tree; files = [] }

  drafted : (new : Disk) (ps : List Pair) (tree : Tree) (op : Operation) (fresh old drafts : List Pair) → Each (IsFittingPair disk) old → EditsSlots new ps (asked_in tree) op fresh old drafts → IsDrafted disk old fresh drafts (max_allocated_blocks op)
  drafted new ps tree (ops.Open path flags) fresh old drafts h e = created (tree (path_or_root path)) (last_name (path_or_root path)) old fresh drafts h e.0 e.1
  drafted new ps tree (ops.Mkdir path) fresh old drafts h e = made (last_name (path_or_root path)) fresh old drafts h e
  drafted new ps tree (ops.Remove path) fresh old drafts h e = shrunk_drafted old fresh drafts (e.1 ∷ []) [] h e.0 e.2.1 (omega arith) (omega arith) (omega arith)
  drafted new ps tree (ops.Rename from to) fresh old drafts h e = moved ps (path_or_root from) (path_or_root to) old fresh drafts h e.0 e.1
  drafted new ps tree (ops.SetAttr path kind bytes) fresh old drafts h e = set ps (path_or_root path) kind bytes old fresh drafts h e.0 e.1
  drafted new ps tree (ops.RemoveAttr path kind) fresh old drafts h e = unset ps (path_or_root path) kind old fresh drafts h e.0 e.1
  drafted new ps tree (ops.Sync fd) fresh old drafts h e = stays_drafted old fresh drafts h e
  drafted new ps tree (ops.Close fd) fresh old drafts h e = stays_drafted old fresh drafts h e
  drafted new ps tree (ops.Read fd count) fresh old drafts h e = stays_drafted old fresh drafts h e
  drafted new ps tree (ops.Write fd bytes) fresh old drafts h e = stays_drafted old fresh drafts h e
  drafted new ps tree (ops.Seek fd position) fresh old drafts h e = stays_drafted old fresh drafts h e
  drafted new ps tree (ops.Truncate fd count) fresh old drafts h e = stays_drafted old fresh drafts h e
  drafted new ps tree (ops.ListAll path) fresh old drafts h e = stays_drafted old fresh drafts h e
  drafted new ps tree (ops.Stat path) fresh old drafts h e = stays_drafted old fresh drafts h e
  drafted new ps tree (ops.GetAttr path kind) fresh old drafts h e = stays_drafted old fresh drafts h e
  drafted new ps tree ops.AskGstate fresh old drafts h e = stays_drafted old fresh drafts h e
  drafted new ps tree (ops.IsUsed block) fresh old drafts h e = stays_drafted old fresh drafts h e
  drafted new ps tree ops.UsedCount fresh old drafts h e = stays_drafted old fresh drafts h e
  drafted new ps tree ops.Recover fresh old drafts h e = stays_drafted old fresh drafts h e
  drafted new ps tree ops.Remount fresh old drafts h e = stays_drafted old fresh drafts h e

  -- ---- the whole

  module _ (new : Disk) (ps qs : List Pair) (tree : Tree) (op : Operation) (laid : IsLayoutAfterOperation disk ps (asked_in tree) op new qs) (h : Each (IsFittingPair disk) ps) where
    fit_here : Each (IsFittingPair disk) (pairs_without_moved ps)
    fit_here = fit_unmoved disk (pairs_gstate ps) ps h

    parts_total : total size qs ≡ total size (flat_map (λ part. part) laid.parts) + total size laid.fresh
    parts_total =
        let a = ap (total size) laid.is in
        let b = total_append disk laid.front (laid.fresh ++ laid.back) in
        let c = total_append disk laid.fresh laid.back in
        let d = ap (total size) laid.joined in
        let e = total_append disk laid.front laid.back in
        omega arith

    pub taken_laid_out : total size qs ≤ total size (pairs_without_moved ps) + max_allocated_blocks op
    taken_laid_out =
        let d = drafted new ps tree op laid.fresh (pairs_without_moved ps) laid.drafts fit_here laid.edits in
        let few = all_few disk (IsUnreachedOrRemoved ps op) (count_before_root ps) None laid.drafts laid.parts laid.stand d.cuts d.few in
        let same = d.same in
        let taken = d.taken in
        let all = parts_total in
        omega arith

  -- a recovery adds no pair, and cuts none
  pub recovered_fit : (new : Disk) (ps qs : List Pair) (tree : Tree) → IsLayoutAfterOperation disk ps (asked_in tree) ops.Recover new qs → Each (IsFittingPair disk) qs
  recovered_fit new ps qs tree laid =
      let parts = parts_fit disk (IsUnreachedOrRemoved ps ops.Recover) (count_before_root ps) None laid.drafts laid.parts laid.stand in
      let joined = subst (Each (IsFittingPair disk)) laid.joined parts in
      let none = laid.edits.0 in
      subst (Each (IsFittingPair disk)) (sym (laid.is ∙ ap (λ (z : List Pair). laid.front ++ (z ++ laid.back)) none)) joined

  pub taken_arranged : (new : Disk) (ps qs : List Pair) (tree : Tree) (op : Operation) → IsLayoutAfterRecovery disk ps (asked_in tree) op new qs → Each (IsFittingPair disk) ps → total size qs ≤ total size (pairs_without_moved ps) + max_allocated_blocks op
  taken_arranged new ps qs tree op a h =
      let first = taken_laid_out a.middle ps a.between tree ops.Recover a.recovery h in
      let second = taken_laid_out new a.between qs tree op a.operation (recovered_fit a.middle ps a.between tree a.recovery) in
      let between = total_unmoved disk (pairs_gstate a.between) a.between in
      omega arith

pub room_taken : (disk new : Disk) (ps qs : List Pair) (tree : Tree) (op : Operation) → IsWritable disk ps → SameGeometry disk new → IsLayoutAfterRecovery disk ps (record { tree = tree; files = [] }) op new qs → length (used_blocks new qs) ≤ length (used_blocks disk ps) + max_allocated_blocks op
room_taken disk new ps qs tree op fits geometry laid =
    let taken = taken_arranged disk new ps qs tree op laid (recursion_from_All (λ (p : Pair). FitsInPair disk.block_size disk.page p.content) ps fits.pairs) in
    let before = used_total disk ps in
    let after = used_total new qs in
    let unmoved = total_unmoved new (pairs_gstate qs) qs in
    let same = ap (λ n. total n qs) geometry.block_size in
    omega arith
