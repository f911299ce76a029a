-- Blocks that aren't among those of a list.
use Rattle.std.proofs.Common.{ℕ, ◌∙◌, ⊎_elim, List, ◌++◌, take, drop, subst}
use Rattle.std.specs.Prelude.{Contains}
use Rattle.lfs_file.proofs.Common.{take-append-drop, Contains-append_left, Contains-append_right, BlockState, BlockStates, KeepsOtherStates, SetsState}
use Rattle.lfs_file.proofs.Takings.{member}

pub puts_others : {state : BlockState} {old new : BlockStates} {bs : List ℕ} → SetsState state old new bs → KeepsOtherStates old new bs
puts_others {bs = bs} puts = record {
  count = puts.count;
  others = λ b not. ⊎_elim (λ has. absurd (not has)) (λ apart. puts.others b apart) (member bs b);
}

pub Contains-behind : (n : ℕ) (bs : List ℕ) (b : ℕ) → Contains (drop n bs) b → Contains bs b
Contains-behind n bs b has = subst (λ (l : List ℕ). Contains l b) (take-append-drop n bs) (Contains-append_right (take n bs) (drop n bs) b has)

pub others_drop : (old new : BlockStates) (n : ℕ) (bs : List ℕ) → KeepsOtherStates old new (drop n bs) → KeepsOtherStates old new bs
others_drop old new n bs keeps = record { count = keeps.count; others = λ b not. keeps.others b (λ has. not (Contains-behind n bs b has)) }

pub others_left : (old new : BlockStates) (xs ys : List ℕ) → KeepsOtherStates old new xs → KeepsOtherStates old new (xs ++ ys)
others_left old new xs ys keeps = record { count = keeps.count; others = λ b not. keeps.others b (λ has. not (Contains-append_left xs ys b has)) }

pub others_more : (old mid new : BlockStates) (xs ys : List ℕ) → KeepsOtherStates old mid xs → KeepsOtherStates mid new ys → KeepsOtherStates old new (xs ++ ys)
others_more old mid new xs ys first second = record {
  count = second.count ∙ first.count;
  others = λ b not. second.others b (λ has. not (Contains-append_right xs ys b has)) ∙ first.others b (λ has. not (Contains-append_left xs ys b has));
}
