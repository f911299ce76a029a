-- Blocks of a list that change their states, one after another.
use Rattle.std.proofs.Common.{ℕ, suc, ◌≡◌, ◌≢◌, ◌+◌, ◌-◌, ◌<◌, ◌⊎◌, inl, inr, ⊎_elim, get_or, set, List, [], ◌∷◌, length, drop, Some, Result, Err, slice_index, refl, sym, ap, ◌∙◌, subst, arith}
use Rattle.lfs_file.proofs.Common.{slice_get, cases_eq, length-set, slice_get-get_or, All-cons, All-contains, Blocks, BlockState, BlockStates, IsUsedBlock, Free, InFlight, Used, blocks_to_head, slice_get-set_same, slice_get-set_other, head_of_back, SettlesList, SetsState}
use Rattle.lfs_device.specs.declared.error.Error.{Error}
use Rattle.lfs_file.proofs.Releasings.{drop_here}

-- the head is the last block
pub head_is : (d : Blocks) (count head : ℕ) → 0 < count → head ≡ slice_index (blocks_to_head d count head) (count - 1)
head_is d count head some =
    let e : count - 1 + 1 ≡ count = omega arith in
    sym (head_of_back d (count - 1) head) ∙ ap (λ n. slice_index (blocks_to_head d n head) (count - 1)) e

-- a list's blocks are all there
pub never_corrupt : {T : Type 0} (x : Error) → (x ≡ Error.Io) ⊎ (x ≡ Error.Corrupt) → (◌≡◌ {A = Result T Error} (Err x) (Err Error.Corrupt) → ⊥) → x ≡ Error.Io
never_corrupt x (inl is) other = is
never_corrupt x (inr is) other = absurd (other (ap Err is))

module _ (state : BlockState) where
  pub puts_none : (sets : BlockStates) → SetsState state sets sets []
  puts_none sets = record { count = refl; put = λ k x l. absurd (omega (arith, l)); others = λ b apart. refl }

  -- a block is set to it
  pub puts_one : (sets new : BlockStates) (b : ℕ) → b < length sets → new ≡ set sets b state → SetsState state sets new (b ∷ [])
  puts_one sets new b lt is = record {
    count = ap length is ∙ length-set sets b state;
    put = All-cons (λ x. slice_get new x ≡ Some state) b [] (ap (λ m. slice_get m b) is ∙ slice_get-set_same sets b state lt) (λ k x l. absurd (omega (arith, l)));
    others = λ other apart. ap (λ m. slice_get m other) is ∙ slice_get-set_other sets b other state (λ e. apart 0 0 (omega arith) (sym e));
  }

  -- a block is in it already
  pub puts_kept : (sets new : BlockStates) (b : ℕ) → slice_get sets b ≡ Some state → new ≡ sets → SetsState state sets new (b ∷ [])
  puts_kept sets new b here is = record {
    count = ap length is;
    put = All-cons (λ x. slice_get new x ≡ Some state) b [] (ap (λ m. slice_get m b) is ∙ here) (λ k x l. absurd (omega (arith, l)));
    others = λ other apart. ap (λ m. slice_get m other) is;
  }

  -- one more
  pub puts_more : (old mid new : BlockStates) (b : ℕ) (bs : List ℕ) → SetsState state old mid bs → SetsState state mid new (b ∷ []) → SetsState state old new (b ∷ bs)
  puts_more old mid new b bs first second =
      let here : slice_get new b ≡ Some state = second.put 0 0 (omega arith) in
      let there : (other : ℕ) → other ≢ b → slice_get new other ≡ slice_get mid other = λ other ne. second.others other (All-cons (λ x. x ≢ other) b [] (λ e. ne (sym e)) (λ k x l. absurd (omega (arith, l)))) in
      record {
        count = second.count ∙ first.count;
        put = All-cons (λ x. slice_get new x ≡ Some state) b bs here (λ k x l. ⊎_elim
            (λ same. subst (λ y. slice_get new y ≡ Some state) (sym same) here)
            (λ ne. there (get_or bs k x) ne ∙ first.put k x l)
            (cases_eq (get_or bs k x) b));
        others = λ other apart. there other (λ e. apart 0 0 (omega arith) (sym e)) ∙ first.others other (λ k x l. apart (suc k) x (omega (arith, l)));
      }

  -- a block more of a list
  pub puts_here : (old mid new : BlockStates) (d : Blocks) (count head index block : ℕ) → index < count → block ≡ slice_index (blocks_to_head d count head) index
      → SetsState state old mid (drop (index + 1) (blocks_to_head d count head)) → SetsState state mid new (block ∷ []) → SetsState state old new (drop index (blocks_to_head d count head))
  puts_here old mid new d count head index block lt is first second =
      subst (λ (l : List ℕ). SetsState state old new l) (ap (λ b. b ∷ drop (index + 1) (blocks_to_head d count head)) is ∙ sym (drop_here d count head index lt))
      (puts_more old mid new block (drop (index + 1) (blocks_to_head d count head)) first second)

-- one list is freed, and then another one used
pub settles : (old mid new : BlockStates) (gone kept : List ℕ) → SetsState Free old mid gone → SetsState Used mid new kept → SettlesList old new gone kept
settles old mid new gone kept first second = record {
  count = second.count ∙ first.count;
  used = second.put;
  freed = λ b has apart. second.others b apart ∙ All-contains (λ x. slice_get mid x ≡ Some Free) gone b first.put has;
  others = λ b away apart. second.others b apart ∙ first.others b away;
}

-- a block that is neither free nor in flight is used
pub used_else : (sets : BlockStates) (b : ℕ) → b < length sets → (slice_get sets b ≡ Some InFlight → ⊥) → (slice_get sets b ≡ Some Free → ⊥) → IsUsedBlock sets b
used_else sets b lt flying free = go (get_or sets b Free) (slice_get-get_or sets b Free lt)
  where
    go : (s : BlockState) → slice_get sets b ≡ Some s → IsUsedBlock sets b
    go Free is = absurd (free is)
    go InFlight is = absurd (flying is)
    go Used is = is
