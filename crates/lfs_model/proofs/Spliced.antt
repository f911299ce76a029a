-- Slots that come into a pair.
use Rattle.std.proofs.Common.{◌≡◌, inl, List, [], ◌∷◌, ◌++◌, refl, sym, subst}
use Rattle.lfs_model.proofs.Common.{flat_map-append, Slot, Pair, pair_with_slots, ReplacesSlots, all_slots}
use Rattle.lfs_model.proofs.Sites.{HoldsForSome, among_left, among_right}

-- a slot that comes is among those that stand then
pub comes : (v : Slot) (olds : List Slot) (old new : List Pair) → ReplacesSlots olds (v ∷ []) old new → HoldsForSome (λ s. s ≡ v) (all_slots new)
comes v olds old new h = subst (λ qs. HoldsForSome (λ s. s ≡ v) (all_slots qs)) (sym h.is)
    (subst (HoldsForSome (λ s. s ≡ v)) (sym (flat_map-append (λ (p : Pair). p.content.slots) h.before (pair_with_slots (h.left ++ v ∷ h.right) h.pair ∷ h.after)))
    (among_right (λ s. s ≡ v) (all_slots h.before) (all_slots (pair_with_slots (h.left ++ v ∷ h.right) h.pair ∷ h.after))
    (among_left (λ s. s ≡ v) (h.left ++ v ∷ h.right) (all_slots h.after) (among_right (λ s. s ≡ v) h.left (v ∷ h.right) (inl refl)))))
