-- A geometry is determined by its three numbers and its profile.
use Rattle.std.proofs.Common.{ℕ, ◌≡◌, ap, subst}
use Rattle.std.proofs.Math.Bool.{Bool-set}
use Rattle.std.proofs.Math.Bridge.{le_prop}
use Rattle.std.proofs.Math.Nat.{ℕ_set}
use Rattle.lfs_device.specs.declared.geometry.Geometry.{Geometry}
use Rattle.lfs_model.specs.declared.limits.Profile.{Profile}
use Rattle.lfs_model.specs.format.Geometry.{IsValidGeometry}

-- its limits hold in one way
pub one_way : {size page count : ℕ} (v w : IsValidGeometry size page count) → v ≡ w
one_way v w = λ i. record {
  power = Bool-set _ _ v.power w.power i;
  pages = le_prop v.pages w.pages i;
  no_smaller = le_prop v.no_smaller w.no_smaller i;
  no_larger = le_prop v.no_larger w.no_larger i;
  whole_pages = ℕ_set _ _ v.whole_pages w.whole_pages i;
  no_fewer = le_prop v.no_fewer w.no_fewer i;
  no_more = le_prop v.no_more w.no_more i;
  bytes = le_prop v.bytes w.bytes i;
}

with_size : (a : Geometry) (size : ℕ) → a.block_size ≡ size → (v : IsValidGeometry size a.page a.block_count) → a ≡ record { block_size = size; page = a.page; profile = a.profile; block_count = a.block_count; valid = v }
with_size a size is = subst (λ s. (v : IsValidGeometry s a.page a.block_count) → a ≡ record { block_size = s; page = a.page; profile = a.profile; block_count = a.block_count; valid = v }) is
    (λ v. ap (λ w. record { block_size = a.block_size; page = a.page; profile = a.profile; block_count = a.block_count; valid = w }) (one_way a.valid v))

with_page : (a : Geometry) (size page : ℕ) → a.block_size ≡ size → a.page ≡ page → (v : IsValidGeometry size page a.block_count) → a ≡ record { block_size = size; page = page; profile = a.profile; block_count = a.block_count; valid = v }
with_page a size page is also = subst (λ p. (v : IsValidGeometry size p a.block_count) → a ≡ record { block_size = size; page = p; profile = a.profile; block_count = a.block_count; valid = v }) also (with_size a size is)

with_profile : (a : Geometry) (size page : ℕ) (profile : Profile) → a.block_size ≡ size → a.page ≡ page → a.profile ≡ profile → (v : IsValidGeometry size page a.block_count)
    → a ≡ record { block_size = size; page = page; profile = profile; block_count = a.block_count; valid = v }
with_profile a size page profile is also same = subst (λ w. (v : IsValidGeometry size page a.block_count) → a ≡ record { block_size = size; page = page; profile = w; block_count = a.block_count; valid = v }) same (with_page a size page is also)

pub geometry_is : (a b : Geometry) → a.block_size ≡ b.block_size → a.page ≡ b.page → a.profile ≡ b.profile → a.block_count ≡ b.block_count → a ≡ b
geometry_is a b size page profile count =
    subst (λ n. (v : IsValidGeometry b.block_size b.page n) → a ≡ record { block_size = b.block_size; page = b.page; profile = b.profile; block_count = n; valid = v }) count (with_profile a b.block_size b.page b.profile size page profile) b.valid
