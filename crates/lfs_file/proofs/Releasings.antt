-- Blocks that are released while they are in flight.
use Rattle.std.proofs.Common.{ℕ, zero, suc, ◌≡◌, ◌≢◌, ◌+◌, ◌-◌, ◌<◌, ◌≤◌, ⊎_elim, cond, get_or, set, List, [], ◌∷◌, length, drop, Some, slice_index, refl, sym, ap, ◌∙◌, subst, arith, add-one, drop-cons}
use Rattle.lfs_file.proofs.Common.{slice_get, cases_eq, length-set, All-cons, slice_get-get_or, Blocks, block_bytes, BlockState, BlockStates, IsInFlight, IsUsedBlock, is_used, used_count, Free, InFlight, Used, AreListBlocks, blocks_to_head, word_at, slice_get-set_same, slice_get-set_other, ReleasesInFlight, length_back}
use Rattle.std.proofs.lemmas.List.Sums.{sum_by-set}

pub releases_none : (sets : BlockStates) → ReleasesInFlight sets sets []
releases_none sets = record { count = refl; used = refl; stays = λ b is. is; gone = λ k x l. absurd (omega (arith, l)); others = λ b apart. refl }

abbrev counted : BlockState → ℕ
counted s = cond (is_used s) 1 0

uncounted : (s : BlockState) → s ≢ Used → counted s ≡ 0
uncounted Free ne = refl
uncounted InFlight ne = refl
uncounted Used ne = absurd (ne refl)

-- a block that isn't used becomes free
pub releases_one : (sets new : BlockStates) (b : ℕ) → b < length sets → ¬ (IsUsedBlock sets b) → new ≡ set sets b Free → ReleasesInFlight sets new (b ∷ [])
releases_one sets new b lt unused is =
    let here : slice_get new b ≡ Some Free = ap (λ m. slice_get m b) is ∙ slice_get-set_same sets b Free lt in
    let there : (other : ℕ) → other ≢ b → slice_get new other ≡ slice_get sets other = λ other ne. ap (λ m. slice_get m other) is ∙ slice_get-set_other sets b other Free ne in
    let was : slice_get sets b ≡ Some (get_or sets b Free) = slice_get-get_or sets b Free lt in
    let none = uncounted (get_or sets b Free) (λ e. unused (was ∙ ap Some e)) in
    let change = sum_by-set (λ s. cond (is_used s) 1 0) sets b Free Free lt in
    record {
      count = ap length is ∙ length-set sets b Free;
      used = ap used_count is ∙ omega (arith, none, change);
      stays = λ other used. ⊎_elim (λ same. absurd (unused (subst (IsUsedBlock sets) same used))) (λ ne. there other ne ∙ used) (cases_eq other b);
      gone = All-cons (λ x. ¬ (IsInFlight new x)) b [] (λ flying. let both : Some Free ≡ Some InFlight = sym here ∙ flying in cc) (λ k x l. absurd (omega (arith, l)));
      others = λ other apart. there other (λ e. apart 0 0 (omega arith) (sym e));
    }

-- one more
pub releases_more : (old mid new : BlockStates) (b : ℕ) (bs : List ℕ) → ReleasesInFlight old mid bs → ReleasesInFlight mid new (b ∷ []) → ReleasesInFlight old new (b ∷ bs)
releases_more old mid new b bs first second =
    let gone : ¬ (IsInFlight new b) = second.gone 0 0 (omega arith) in
    let there : (other : ℕ) → other ≢ b → slice_get new other ≡ slice_get mid other = λ other ne. second.others other (All-cons (λ x. x ≢ other) b [] (λ e. ne (sym e)) (λ k x l. absurd (omega (arith, l)))) in
    record {
      count = second.count ∙ first.count;
      used = second.used ∙ first.used;
      stays = λ c is. second.stays c (first.stays c is);
      gone = All-cons (λ x. ¬ (IsInFlight new x)) b bs gone (λ k x l flying. ⊎_elim
          (λ same. gone (subst (IsInFlight new) same flying))
          (λ ne. first.gone k x l (sym (there (get_or bs k x) ne) ∙ flying))
          (cases_eq (get_or bs k x) b));
      others = λ other apart. there other (λ e. apart 0 0 (omega arith) (sym e)) ∙ first.others other (λ k x l. apart (suc k) x (omega (arith, l)));
    }

-- a block of a list, and those behind it
pub drop_here : (d : Blocks) (count head index : ℕ) → index < count → drop index (blocks_to_head d count head) ≡ slice_index (blocks_to_head d count head) index ∷ drop (index + 1) (blocks_to_head d count head)
drop_here d count head index lt =
    drop-cons (blocks_to_head d count head) index 0 (omega (arith, length_back d count head))
    ∙ ap (λ n. slice_index (blocks_to_head d count head) index ∷ drop n (blocks_to_head d count head)) (sym (add-one index))

-- its pointer 0 names the one before it
pub before_in : (d : Blocks) (count head index block : ℕ) → AreListBlocks d count head → 0 < index → index < count → block ≡ slice_index (blocks_to_head d count head) index
    → word_at (block_bytes d block) 0 ≡ slice_index (blocks_to_head d count head) (index - 1)
before_in d count head zero block chain some lt is = absurd (omega arith)
before_in d count head (suc i) block chain some lt is = ap (λ b. word_at (block_bytes d b) 0) is ∙ chain.pointers (suc i) 0 lt (omega arith)

pub in_range_at : (d : Blocks) (count head index : ℕ) → AreListBlocks d count head → index < count → slice_index (blocks_to_head d count head) index < length d
in_range_at d count head index chain lt = chain.in_range index 0 (omega (arith, length_back d count head))

-- the block that was read before one
pub next_is : (d e : Blocks) (count head index block word : ℕ) → e ≡ d → AreListBlocks d count head → 0 < index → index < count → block ≡ slice_index (blocks_to_head d count head) index
    → word ≡ word_at (block_bytes e block) 0 → word ≡ slice_index (blocks_to_head d count head) (index - 1)
next_is d e count head index block word same chain some lt is read =
    read ∙ ap (λ (b : Blocks). word_at (block_bytes b block) 0) same ∙ before_in d count head index block chain some lt is

-- it is on the device
pub next_there : (d e : Blocks) (count head index block n : ℕ) → e ≡ d → AreListBlocks d count head → index < count → block ≡ slice_index (blocks_to_head d count head) index → n ≡ length d
    → 0 < index → n ≤ word_at (block_bytes e block) 0 → ⊥
next_there d e count head index block n same chain lt is all some out =
    let next = next_is d e count head index block (word_at (block_bytes e block) 0) same chain some lt is refl in
    let within = in_range_at d count head (index - 1) chain (omega arith) in
    absurd (omega arith)

-- a block more of a list is out of flight
pub releases_here : (old mid new : BlockStates) (d : Blocks) (count head index block : ℕ) → index < count → block ≡ slice_index (blocks_to_head d count head) index
    → ReleasesInFlight old mid (drop (index + 1) (blocks_to_head d count head)) → ReleasesInFlight mid new (block ∷ []) → ReleasesInFlight old new (drop index (blocks_to_head d count head))
releases_here old mid new d count head index block lt is first second =
    subst (λ (l : List ℕ). ReleasesInFlight old new l) (ap (λ b. b ∷ drop (index + 1) (blocks_to_head d count head)) is ∙ sym (drop_here d count head index lt))
    (releases_more old mid new block (drop (index + 1) (blocks_to_head d count head)) first second)
