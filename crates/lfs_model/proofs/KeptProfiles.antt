-- An image that breaks a rule of the writing profile may not be written.
use Rattle.std.proofs.Common.{ℕ, zero, suc, ◌≡◌, ◌≢◌, ◌+◌, ◌≤◌, ◌∙◌, Bool, true, false, List, [], ◌∷◌, Some, drop, sym, ap, subst, arith}
use Rattle.std.specs.Prelude.{All, slice_get}
use Rattle.lfs_model.proofs.Common.{get_or_from_slice_get, none-some, same_Some, slice_get_within, Disk, superblock_fields, HasNoEmptyPairs, IsWritableSlot, IsWritable, IsSmallContent, FitsInPair, Slot, address_of_array, Pair, is_hard_tail, count_before_root}
use Rattle.lfs_model.specs.format.Disk.{profile_attr_max, profile_file_max, profile_name_max}
use Rattle.lfs_model.specs.format.EntryTypes.{SuperblockFields}
use Rattle.lfs_model.specs.tree.Profile.{HasLimitsOfProfile}
use Rattle.lfs_model.specs.layers.ProfileBreaches.{BreaksProfile, IsDifferingLimit, HasDifferingLimit}
use Rattle.lfs_model.specs.layers.Violations.{IsSlotAt}
use Rattle.lfs_model.specs.declared.breaches.OtherLimit.{OtherLimit}
use Rattle.lfs_model.specs.declared.breaches.OtherLimit.TheVariants as limit
use Rattle.lfs_model.specs.declared.breaches.ProfileBreach.{ProfileBreach}
use Rattle.lfs_model.specs.declared.breaches.ProfileBreach.TheVariants as breach
use Rattle.lfs_model.specs.declared.limits.Profile.{Profile}

-- what holds of all holds of the one there
holds_there : {X : Type 0} (P : X → Type 0) (xs : List X) (i : ℕ) (x : X) → All P xs → slice_get xs i ≡ Some x → P x
holds_there P xs i x all there = subst P (get_or_from_slice_get xs i x x there) (all i x (slice_get_within xs i x there))

no_other_field : (profile : Profile) (f : SuperblockFields) (other : OtherLimit) → f.name_max ≡ profile_name_max profile → f.file_max ≡ profile_file_max profile → f.attr_max ≡ profile_attr_max profile → ¬ IsDifferingLimit profile f other
no_other_field profile f (limit.Name n) name file attr (is, differs) = differs (sym is ∙ name)
no_other_field profile f (limit.File n) name file attr (is, differs) = differs (sym is ∙ file)
no_other_field profile f (limit.Attr n) name file attr (is, differs) = differs (sym is ∙ attr)

no_other_limit : (profile : Profile) (other : OtherLimit) (s : Slot) → HasLimitsOfProfile profile s → ¬ HasDifferingLimit profile other s
no_other_limit profile other s (bytes, (inline, name, file, attr)) broken =
    let same : bytes ≡ broken.bytes = let e = sym inline ∙ broken.inline in cc in
    no_other_field profile (superblock_fields bytes) other name file attr (subst (λ b. IsDifferingLimit profile (superblock_fields b) other) (sym same) broken.differs)

-- a pair that a hard tail names has slots, from the root on
filled_next : (after : Bool) (ps : List Pair) (i : ℕ) (before pair : Pair) → HasNoEmptyPairs after ps → slice_get ps i ≡ Some before → slice_get ps (suc i) ≡ Some pair → is_hard_tail before.content.tail ≡ true → pair.content.slots ≢ []
filled_next after [] i before pair filled first next hard = absurd (none-some before first)
filled_next after (p ∷ []) zero before pair filled first next hard = absurd (none-some pair next)
filled_next after (p ∷ q ∷ ps) zero before pair filled first next hard =
    subst (λ (x : Pair). x.content.slots ≢ []) (same_Some q pair next) (filled.1.0 (ap (λ (x : Pair). is_hard_tail x.content.tail) (same_Some p before first) ∙ hard))
filled_next after (p ∷ ps) (suc i) before pair filled first next hard = filled_next (is_hard_tail p.content.tail) ps i before pair filled.1 first next hard

filled_behind : (root : ℕ) (ps : List Pair) (i : ℕ) (before pair : Pair) → HasNoEmptyPairs false (drop root ps) → root ≤ i → slice_get ps i ≡ Some before → slice_get ps (suc i) ≡ Some pair → is_hard_tail before.content.tail ≡ true → pair.content.slots ≢ []
filled_behind zero ps i before pair filled behind first next hard = filled_next false ps i before pair filled first next hard
filled_behind (suc root) [] i before pair filled behind first next hard = absurd (none-some before first)
filled_behind (suc root) (p ∷ ps) zero before pair filled behind first next hard = absurd (omega (arith, behind))
filled_behind (suc root) (p ∷ ps) (suc i) before pair filled behind first next hard = filled_behind root ps i before pair filled (omega (arith, behind)) first next hard

module _ (disk : Disk) (ps : List Pair) (writable : IsWritable disk ps) where
  slot_fits : (at : ℕ × ℕ) (id : ℕ) (s : Slot) → IsSlotAt ps at id s → IsWritableSlot disk.profile disk.block_size disk.page s
  slot_fits at id s is =
      holds_there (IsWritableSlot disk.profile disk.block_size disk.page) is.pair.content.slots id s
      (holds_there (λ (p : Pair). All (IsWritableSlot disk.profile disk.block_size disk.page) p.content.slots) ps is.index is.pair writable.slots is.there) is.slot

  small : (i : ℕ) (p : Pair) → slice_get ps i ≡ Some p → IsSmallContent disk.profile disk.block_size disk.page p.content
  small i p there = record {
    pair = holds_there (λ (q : Pair). FitsInPair disk.block_size disk.page q.content) ps i p writable.pairs there;
    entries = λ k d l entry. (((holds_there (λ (q : Pair). All (IsWritableSlot disk.profile disk.block_size disk.page) q.content.slots) ps i p writable.slots there) k d l).1 entry).charge;
  }

pub writable_breaks_none : (disk : Disk) (ps : List Pair) (b : ProfileBreach) → IsWritable disk ps → ¬ BreaksProfile disk ps b
writable_breaks_none disk ps (breach.OtherLimits pair slot limit) writable (s, (is, broken)) =
    no_other_limit disk.profile limit s ((slot_fits disk ps writable (address_of_array pair) slot s is).0 broken.kind) broken
writable_breaks_none disk ps (breach.LongInline pair slot) writable (s, (is, (entry, long))) = long ((slot_fits disk ps writable (address_of_array pair) slot s is).1 entry).inline
writable_breaks_none disk ps (breach.EmptyPair pair) writable e =
    let next : e.index + 1 ≡ suc e.index = omega arith in
    filled_behind (count_before_root ps) ps e.index e.before e.pair writable.no_empty_pair e.root e.first (ap (slice_get ps) (sym next) ∙ e.next) e.hard e.empty
writable_breaks_none disk ps (breach.TooLarge pair) writable e = e.large (small disk ps writable e.index e.pair e.there)
