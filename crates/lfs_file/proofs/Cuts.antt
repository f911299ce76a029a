-- Cuts of a stored list.
use Rattle.std.proofs.Common.{ℕ, ◌≡◌, ◌≢◌, inl, inr, ⊎_elim, get_or, List, [], take, drop, sym, ◌∙◌, subst, arith, length-drop}
use Rattle.std.specs.Prelude.{All, Contains}
use Rattle.lfs_file.proofs.Common.{take-take, length-take, All-contains, All-contains_itself, All-take, Blocks, SameExceptBlocks, BlockStates, IsFree, IsInFlight, IsSkipList, IsTakenNotPending, IsListOrEmpty, blocks_of_list, IsFinishedList, ReleasesInFlight}
use Rattle.lfs_file.specs.declared.stored_list.StoredList.{StoredList}
use Rattle.lfs_file.proofs.Bases.{blocks_stay, list_stays}
use Rattle.lfs_file.proofs.Ends.{base_distinct, gone_of, still_apart, still_flying}
use Rattle.lfs_file.proofs.Spared.{spares_end}
use Rattle.lfs_file.proofs.Takings.{member}

module _ (map : BlockStates) (d f : Blocks) (block_size : ℕ) (stored : StoredList) (pending : List ℕ) (is : IsFinishedList map d block_size stored) (none : pending ≡ []) (same : SameExceptBlocks pending d f) where
  abbrev bb : List ℕ
  bb = blocks_of_list d block_size stored.head stored.size

  apart : All (IsTakenNotPending map pending) (blocks_of_list d block_size stored.head stored.size)
  apart k x l = (is.marked k x l, subst (All (λ p. p ≢ get_or (blocks_of_list d block_size stored.head stored.size) k x)) (sym none) (λ i y m. absurd (omega (arith, m))))

  stay : blocks_of_list f block_size stored.head stored.size ≡ blocks_of_list d block_size stored.head stored.size
  stay = blocks_stay map pending d f block_size stored.head stored.size (spares_end map pending d f same) apart

  pub base_stays : IsListOrEmpty f block_size stored.head stored.size
  base_stays = ⊎_elim (λ zero. inl zero) (λ list. inr (list_stays map pending d f block_size stored.head stored.size (spares_end map pending d f same) apart list)) is.base

  pub cuts : (later : BlockStates) (n head keep : ℕ) → IsSkipList f block_size head keep → blocks_of_list f block_size head keep ≡ take n bb → ReleasesInFlight map later (gone_of stored.in_flight n (blocks_of_list f block_size stored.head stored.size))
      → IsFinishedList later f block_size (record { head = head; size = keep; in_flight = stored.in_flight })
  cuts later n head keep list blocks released =
      let out : ReleasesInFlight map later (gone_of stored.in_flight n bb) = subst (λ (l : List ℕ). ReleasesInFlight map later (gone_of stored.in_flight n l)) stay released in
      let front : take n (take n bb) ≡ take n bb = take-take n n bb (omega arith) in
      let behind : All (λ b. All (λ c. c ≢ b) bb) (drop n (take n bb)) = λ k x l. absurd (omega (arith, l, length-drop n (take n bb), length-take n bb)) in
      let distinct = base_distinct d block_size stored.head stored.size is.base in
      record {
        base = inr list;
        count = released.count ∙ is.count ∙ sym same.count;
        marked = subst (All (λ b. ¬ (IsFree later b))) (sym blocks) (λ k x l free.
            All-take (λ b. ¬ (IsFree map b)) n bb is.marked k x l
            (sym (out.others (get_or (take n bb) k x) (still_apart n (take n bb) bb (get_or (take n bb) k x) stored.in_flight distinct front behind (All-contains_itself (take n bb) k x l))) ∙ free));
        flying = λ b flying. (
          ⊎_elim (λ has. absurd (All-contains (λ x. ¬ (IsInFlight later x)) (gone_of stored.in_flight n bb) b out.gone has flying))
              (λ away. (is.flying b (sym (out.others b away) ∙ flying)).0)
              (member (gone_of stored.in_flight n bb) b),
          subst (λ (l : List ℕ). Contains l b) (sym blocks) (still_flying map later n (take n bb) bb b stored.in_flight front out (λ was. inr (is.flying b was)) flying),
        );
      }
