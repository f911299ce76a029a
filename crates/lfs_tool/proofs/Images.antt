-- What was found of an image.
use Rattle.std.proofs.Common.{◌≡◌, ◌<◌, ◌*◌, ◌/◌, ℕ, List, arith, length, refl, subst, sym}
use Rattle.lfs_tool.proofs.Common.{Disk, IsWholeImage, disk_with_order, disk_of_image, IsAccepted, AreWalkItems, IsImageWalk, IsMountError, PathStruct, RefusesToList, path_struct_lines}
use Rattle.lfs_thread.specs.Kept.{ThreadView}
use Rattle.lfs_tool.specs.declared.image_layout.ImageLayout.{ImageLayout}
use Rattle.lfs_model.specs.declared.order.NameOrder.{NameOrder}
use Rattle.lfs_model.specs.declared.order.NameOrder.TheVariants.{LongerFirst}
use Rattle.lfs_model.proofs.Cuts.{HasBlockSizes-cut}
use Rattle.lfs_tool.proofs.Walked.{HasSizes, listed_from}
use Rattle.lfs_device.specs.declared.error.Error.{Error}
use Rattle.lfs_device.specs.declared.error.Error.TheVariants.{Corrupt, NoMemory}
use Rattle.lfs_tool.specs.Listings.{IsImageListing, IsWalkedThread}

-- ---- of its disk

sizes_of_image : (layout : ImageLayout) (order : NameOrder) (image : List ℕ) → IsWholeImage layout.block_size layout.page image → HasSizes (disk_of_image layout.block_size layout.page layout.profile order image)
sizes_of_image layout order image is =
    let some : 0 < layout.block_size = omega (arith, is.geometry.no_smaller) in
    let whole : length image ≡ layout.block_size * (length image / layout.block_size) = omega (arith, is.whole) in
    record { enough = is.geometry.no_smaller; count = length image / layout.block_size; divided = HasBlockSizes-cut layout.block_size (length image / layout.block_size) image whole }

pub refuses_image : (layout : ImageLayout) (image : List ℕ) (disk : Disk) (e : Error) → IsWholeImage layout.block_size layout.page image
    → disk ≡ disk_of_image layout.block_size layout.page layout.profile LongerFirst image → IsMountError disk e → RefusesToList layout image e
refuses_image layout image disk Corrupt is same wrong = (is, λ view (order, (ps, (accepted, shows))). wrong order ps (subst (λ d. IsAccepted (disk_with_order order d) ps) (sym same) accepted))
refuses_image layout image disk NoMemory is same wrong = tt
refuses_image layout image disk e is same wrong = absurd wrong

-- what a walk found of it
pub walked_image : (layout : ImageLayout) (image : List ℕ) (disk : Disk) (t : ThreadView) (places : List PathStruct) → IsWholeImage layout.block_size layout.page image
    → disk ≡ disk_of_image layout.block_size layout.page layout.profile LongerFirst image → IsWalkedThread disk t places → IsImageWalk layout image places
walked_image layout image disk t places is same walked =
    let order = t.kept.disk.order in (
      is,
      (order, (t.kept.pairs, (subst (λ d. IsAccepted (disk_with_order order d) t.kept.pairs) same walked.accepted, subst (λ d. AreWalkItems (disk_with_order order d) t.kept.pairs places) same walked.walked))),
    )

pub walk_lists : (layout : ImageLayout) (image : List ℕ) (places : List PathStruct) → IsImageWalk layout image places → IsImageListing layout image (path_struct_lines places)
walk_lists layout image places (is, (order, (ps, (accepted, walked)))) =
    let (view, (shows, listing)) = listed_from (disk_of_image layout.block_size layout.page layout.profile order image) (path_struct_lines places) (sizes_of_image layout order image is) (ps, (accepted, (places, (walked, refl)))) in
    (is, (view, ((order, shows), listing)))

-- ---- how long it is

pub image_fits : (block_size page : ℕ) (image : List ℕ) → IsWholeImage block_size page image → length image < 268435457
image_fits block_size page image is =
    let g = is.geometry in
    let some : 0 < block_size = omega (arith, g.no_smaller) in
    omega (arith, g.bytes, is.whole)
