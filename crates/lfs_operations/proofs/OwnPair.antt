-- The own pair of an entry that names an empty directory, in a thread.
use Rattle.lfs_operations.proofs.Common.{ℕ, ◌≡◌, ◌+◌, ◌<◌, false, true, slice_get, List, [], ◌∷◌, ◌++◌, length, Some, sym, ap, subst, ◌∙◌, IsPairAt, IsPositionOfName, Name, Branch, Slot, same_pair, Pair, pairs_gstate, is_hard_tail, Path, struct_directory_address, IsAccepted, IsDirectoryAtPath, all_entries, no_move_from, slot_of_stands, IsChain, KeptThread, empty_anchor, thread_pair, option_and_then, IsRecoveredWritableImage}
use Rattle.lfs_model.proofs.EmptyDirectories.{HasFront, get_some, has_front, number_of_first, shows_nothing}

-- a path leads to the directory
pub led_to : (t : KeptThread) (ready : IsRecoveredWritableImage t) (P : Path) (a : ℕ × ℕ) (leads : IsDirectoryAtPath t.pairs P a) (first index id : ℕ) (name : Name) (stands : IsPositionOfName t.pairs first name index id) → IsPairAt t.pairs a first
    → (to : ℕ × ℕ) → stands.stands.slot.struct ≡ Branch to → IsDirectoryAtPath t.pairs (P ++ name ∷ []) to
led_to t ready P a leads first index id name stands begins to branch =
    ap (option_and_then (λ (f : Slot). struct_directory_address f.struct)) (slot_of_stands t.disk t.pairs P a ready.accepted leads first index id name (no_move_from t.pairs ready.settled) stands begins) ∙ ap struct_directory_address branch

-- The directory's only pair has no slots, and stands there among the pairs of the directories.
pub record HasOwnPair (t : KeptThread) (chain dirs : List Pair) (gone : ℕ) (to : ℕ × ℕ) : Type 0 where
  pub front : HasFront dirs to
  pub number : gone ≡ length (chain ++ front.front) + 1
  pub first : front.first ≡ thread_pair t gone
  pub dirs_are : dirs ≡ front.front ++ front.before ∷ thread_pair t gone ∷ (front.run ++ front.after)
  pub empty : all_entries (chain ++ dirs) to ≡ []

pub own_pair : (t : KeptThread) (ready : IsRecoveredWritableImage t) (chain dirs : List Pair) → t.pairs ≡ chain ++ dirs → IsChain chain dirs → (P : Path) (n : Name) (to : ℕ × ℕ) (gone : ℕ) → IsDirectoryAtPath t.pairs (P ++ n ∷ []) to → gone < length t.pairs
    → same_pair (thread_pair t gone).at to ≡ true → (thread_pair t gone).content.slots ≡ [] → is_hard_tail (thread_pair t gone).content.tail ≡ false → HasOwnPair t chain dirs gone to
own_pair t ready chain dirs there is_chain P n to gone led below at empty alone = record {
  front = front;
  number = first_is.0;
  first = first_is.1;
  dirs_are = front.is ∙ ap (λ z. front.front ++ front.before ∷ z ∷ (front.run ++ front.after)) first_is.1;
  empty = shows_nothing t.disk chain dirs to accepted is_chain (no_move_from (chain ++ dirs) (ap pairs_gstate (sym there) ∙ ready.settled)) front (ap (λ (z : Pair). is_hard_tail z.content.tail) first_is.1 ∙ alone)
      (ap (λ (z : Pair). z.content.slots) first_is.1 ∙ empty);
}
  where
    accepted : IsAccepted t.disk (chain ++ dirs)
    accepted = subst (IsAccepted t.disk) there ready.accepted

    front : HasFront dirs to
    front = has_front t.disk chain dirs P n to accepted is_chain (subst (λ z. IsDirectoryAtPath z (P ++ n ∷ []) to) there led)

    first_is : (gone ≡ length (chain ++ front.front) + 1) × (front.first ≡ thread_pair t gone)
    first_is = number_of_first t.disk chain dirs to accepted front gone (thread_pair t gone) (subst (λ z. slice_get z gone ≡ Some (thread_pair t gone)) there (get_some t.pairs gone empty_anchor below)) at
