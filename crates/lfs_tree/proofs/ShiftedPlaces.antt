-- An entry that is renamed within its pair.
use Rattle.std.proofs.Common.{ℕ, Bool, true, false, List, ◌≡◌, ◌≢◌, ◌∙◌, ◌++◌, [], ◌∷◌, append-nil, Some, None, sym, ap, subst}
use Rattle.lfs_tree.proofs.Common.{without_prefix, IsDirectoryPair, IsRenameTargetPosition, Name, Pair, Path, KeptThread, CanMoveEntry}
use Rattle.lfs_model.proofs.Paths.{rest_itself}
use Rattle.lfs_tree.specs.declared.renames_at.RenameSource.{RenameSource}
use Rattle.lfs_lookup.specs.declared.search.SlotPosition.{SlotPosition}
use Rattle.lfs_tree.proofs.SameDirectory.{same_above, same_first}

-- a pair of the directory that begins with the pair of index `first`
pub record IsPairOf (ps : List Pair) (first index : ℕ) : Type 0 where
  pub pair : Pair
  pub rest : List Pair
  pub place : IsDirectoryPair ps first index pair rest

pub pair_of_target : (replaces sync : Bool) (t : KeptThread) (first : ℕ) (name : Name) (index id : ℕ) (gone : List ℕ) → IsRenameTargetPosition replaces sync t first name index id gone → IsPairOf t.pairs first index
pair_of_target false sync t first name index id gone h = record { pair = h.belongs.pair; rest = _; place = h.belongs.place }
pair_of_target true sync t first name index id gone h = record { pair = h.there.pair; rest = _; place = h.there.place }

module _ (t : KeptThread) (from to : Path) (source : RenameSource) (slot : SlotPosition) (name : Name) (can : CanMoveEntry t from to source name) (target : IsPairOf t.pairs can.first slot.pair) (e : source.slot.pair ≡ slot.pair) where
  pub one_place : can.first ≡ can.old.first
  one_place = same_first t.disk t.pairs can.above can.old.path can.on.at can.old.at can.first can.old.first slot.pair target.pair can.old.stands.pair target.rest can.old.stands.rest
      can.old.ready.accepted can.on.leads can.on.begins can.old.leads can.old.begins target.place
      (subst (λ i. IsDirectoryPair t.pairs can.old.first i can.old.stands.pair can.old.stands.rest) e can.old.stands.place)

  one_above : can.above ≡ can.old.path
  one_above = same_above t.disk t.pairs can.above can.old.path can.on.at can.old.at can.first can.old.first can.old.ready.accepted can.on.leads can.on.begins can.old.leads can.old.begins one_place

  pub target_path : to ≡ can.old.path ++ name ∷ []
  target_path = can.is ∙ ap (λ p. p ++ name ∷ []) one_above

  pub other_name : name ≢ can.old.name
  other_name same =
      let k : without_prefix from from ≡ None = subst (λ p. without_prefix from p ≡ None) (target_path ∙ ap (λ n. can.old.path ++ n ∷ []) same ∙ sym can.old_is) can.not_beneath in
      let l : without_prefix from from ≡ Some [] = ap (without_prefix from) (sym (append-nil from)) ∙ rest_itself from [] in
      absurd (let z = sym k ∙ l in cc)
