-- A draft that is started, extended and completed.
use Rattle.std.proofs.Common.{ℕ, false, ◌≡◌, ◌≢◌, ◌+◌, ◌≤◌, inl, inr, ⊎_elim, nat_eq, get_or, List, [], ◌++◌, length, take, drop, Some, refl, sym, ap, ◌∙◌, subst, arith, length-drop}
use Rattle.std.specs.Prelude.{All, Contains}
use Rattle.std.specs.List.{IsDistinct}
use Rattle.lfs_file.proofs.Common.{eqb-false, take-take, take-append-le, drop-append-le, take-append-drop, length-take, length-take-le, get_or-take, get_or-drop, All-append, All-contains, All-take, Contains-append_left, Contains-append_cases, apart_from_distinct, Blocks, BlockStates, IsFree, Free, Used, skip_list_block_count, GrowingList, DiskHasList, growing_blocks, rest_lacks_block, lasting_blocks, unwritten_block, growing_size_with, unwritten_rest_block, GrowsInFree, IsTakenNotPending, HasBlocksTaken, KeepsTakenBytes, blocks_of_list, SharesFirstBlocks, CanEndOver, IsFinishedList, ChangesOnlyFree, length_back}
use Rattle.std.proofs.lemmas.Grind.{get_or_default_zero}
use Rattle.lfs_file.specs.declared.rest.RestLocation.{RestLocation}
use Rattle.lfs_file.specs.declared.rest.RestLocation.TheVariants.{Closed, Shared, Handed, Held}
use Rattle.lfs_file.specs.declared.stored_list.StoredList.{StoredList}
use Rattle.lfs_file.proofs.Bases.{blocks_stay, list_stays}
use Rattle.lfs_file.proofs.Growth.{in_longer, split}
use Rattle.lfs_file.proofs.Spared.{keeps_used}
use Rattle.lfs_file.proofs.Used.{used_back}
use Rattle.lfs_file.proofs.Pushed.{length-kept}

-- ---- lists

pub Contains-drop : (n : ℕ) (xs : List ℕ) (b : ℕ) → Contains xs b → ¬ (Contains (drop n xs) b) → Contains (take n xs) b
Contains-drop n xs b has not = ⊎_elim (λ front. front) (λ behind. absurd (not behind)) (Contains-append_cases (take n xs) (drop n xs) b (subst (λ (l : List ℕ). Contains l b) (sym (take-append-drop n xs)) has))

pub Contains-take : (n : ℕ) (xs : List ℕ) (b : ℕ) → Contains (take n xs) b → Contains xs b
Contains-take n xs b has = subst (λ (l : List ℕ). Contains l b) (take-append-drop n xs) (Contains-append_left (take n xs) (drop n xs) b has)

-- the front of distinct elements has none of those behind it
pub distinct_parts : (n : ℕ) (xs : List ℕ) (b : ℕ) → IsDistinct nat_eq xs → Contains (take n xs) b → All (λ r. r ≢ b) (drop n xs)
distinct_parts n xs b distinct (i, lt, is) k x l same =
    let len = length-take n xs in
    let behind = length-drop n xs in
    let here : get_or (take n xs) i b ≡ get_or xs i b = get_or-take n xs i b (omega arith) in
    let there : get_or (drop n xs) k x ≡ get_or xs (n + k) x = get_or-drop n xs k x in
    let zero_b = get_or_default_zero xs (n + k) b (omega arith) in
    let zero_x = get_or_default_zero xs (n + k) x (omega arith) in
    eqb-false (get_or xs i b) (get_or xs (n + k) b) (apart_from_distinct nat_eq xs i (n + k) b distinct (omega arith) (omega arith))
    (sym here ∙ is ∙ sym same ∙ there ∙ zero_x ∙ sym zero_b)

-- ---- growth

pub hand_grows : (map later : BlockStates) (d e : Blocks) (block_size : ℕ) (g h : GrowingList) (base : StoredList) (shared : ℕ) → SharesFirstBlocks map d block_size g base shared → KeepsTakenBytes map (unwritten_block g) d e → ChangesOnlyFree map later
    → GrowsInFree map d g later e h → DiskHasList e h → HasBlocksTaken later e h → growing_blocks e h ≡ lasting_blocks e h → length (lasting_blocks e h) ≡ skip_list_block_count block_size (growing_size_with block_size h) → rest_lacks_block h ≡ false → CanEndOver later e block_size h base shared
hand_grows map later d e block_size g h base shared begun spared keeps grown growing marked own many listed =
    let bb : List ℕ = blocks_of_list d block_size base.head base.size in
    let stay : blocks_of_list e block_size base.head base.size ≡ bb = blocks_stay map (unwritten_block g) d e block_size base.head base.size spared begun.apart in
    let x : List ℕ = lasting_blocks d g in
    let y : List ℕ = lasting_blocks e h in
    let all : y ≡ x ++ drop (length x) y = split x y grown.front in
    let size : length (take shared x) ≡ length (take shared bb) = ap length begun.front in
    let long = length_back d (skip_list_block_count block_size base.size) base.head in
    let few : shared ≤ length x = (let p = length-take shared x in let q = length-take-le shared bb (let f = begun.few in omega arith) in omega arith) in
    record {
      begun = record {
        growing = growing;
        marked = marked;
        list = ⊎_elim (λ none. inl none) (λ list. inr (list_stays map (unwritten_block g) d e block_size base.head base.size spared begun.apart list)) begun.list;
        apart = subst (All (IsTakenNotPending later (unwritten_block h))) (sym stay) (λ k v l. grown.apart (get_or bb k v) (begun.apart k v l));
        few = begun.few;
        front = ap (take shared) all ∙ take-append-le shared x (drop (length x) y) few ∙ begun.front ∙ ap (take shared) (sym stay);
        behind = subst (λ (l : List ℕ). All (λ b. All (λ c. c ≢ b) l) (drop shared y)) (sym stay)
            (subst (All (λ b. All (λ c. c ≢ b) bb)) (sym (ap (drop shared) all ∙ drop-append-le shared x (drop (length x) y) few))
            (All-append (λ b. All (λ c. c ≢ b) bb) (drop shared x) (drop (length x) y) begun.behind
            (λ k v l i w m same. (begun.apart i w m).0 (subst (IsFree map) (sym same) (grown.fresh k v l)))));
        taken = λ b has used.
            let was = used_back (keeps_used keeps) b used in
            ⊎_elim
            (λ front. subst (λ (l : List ℕ). Contains l b) (sym stay) (begun.taken b front was))
            (λ fresh. absurd (let free = All-contains (IsFree map) (drop (length x) y) b grown.fresh fresh in let both : Some Free ≡ Some Used = sym free ∙ was in cc))
            (Contains-append_cases x (drop (length x) y) b (subst (λ (l : List ℕ). Contains l b) all has));
        flying = λ b is. ⊎_elim
            (λ was. ⊎_elim (λ has. inl (in_longer x y b grown.front has)) (λ both. inr (both.0, subst (λ (l : List ℕ). Contains l b) (sym stay) both.1)) (begun.flying b was))
            (λ has. inl has)
            (grown.flying b is);
      };
      own = own;
      many = many;
      listed = listed;
    }

-- ---- the beginning

pub begins : (map : BlockStates) (d : Blocks) (block_size : ℕ) (g : GrowingList) (base : StoredList) (full : ℕ) → IsFinishedList map d block_size base → DiskHasList d g → unwritten_block g ≡ []
    → lasting_blocks d g ≡ take full (blocks_of_list d block_size base.head base.size) → g.full ≡ full → SharesFirstBlocks map d block_size g base full
begins map d block_size g base full stored growing none kept is =
    let bb : List ℕ = blocks_of_list d block_size base.head base.size in
    let long = length_back d (skip_list_block_count block_size base.size) base.head in
    let many = length-kept d g in
    let empty = ap length none in
    let part = length-take full bb in
    let few : full ≤ length bb = omega (arith, ap length kept) in
    record {
      growing = growing;
      marked = record {
        count = stored.count;
        kept = subst (All (λ b. ¬ (IsFree map b))) (sym kept) (All-take (λ b. ¬ (IsFree map b)) full bb stored.marked);
        pending = λ k x l. absurd (omega (arith, l));
      };
      list = stored.base;
      apart = λ k x l. (stored.marked k x l, λ i y m. absurd (omega (arith, m)));
      few = omega arith;
      front = ap (take full) kept ∙ take-take full full bb (omega arith);
      behind = λ k x l. absurd (omega (arith, l, length-drop full (lasting_blocks d g), ap length kept));
      taken = λ b has used. Contains-take full bb b (subst (λ (l : List ℕ). Contains l b) kept has);
      flying = λ b flying. inr (stored.flying b flying);
    }

pub pending_none : (t : RestLocation) → length (unwritten_rest_block t) ≡ 0 → unwritten_rest_block t ≡ []
pending_none Closed e = refl
pending_none (Shared b) e = refl
pending_none (Handed b) e = absurd (omega (arith, e))
pending_none Held e = refl

pub none_pending : (d : Blocks) (g : GrowingList) → lasting_blocks d g ≡ [] → (unwritten_block g ≡ []) × (g.full ≡ 0)
none_pending d g none =
    let many = length-kept d g in
    let empty = ap length none in
    (pending_none g.stand (omega arith), omega arith)
