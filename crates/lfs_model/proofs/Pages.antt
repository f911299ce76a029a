-- Pages, and where a commit ends on them.
use Rattle.std.proofs.Common.{ℕ, ◌≡◌, ◌+◌, ◌<◌, ◌≤◌, true, arith}
use Rattle.lfs_model.proofs.Common.{nat_tests}
use Rattle.lfs_model.specs.format.Geometry.{is_valid_page_size}
use Rattle.lfs_model.specs.layers.Commit.{aligned_commit_end}

pub page_positive : (page : ℕ) → is_valid_page_size page ≡ true → 0 < page
page_positive page h = grind (arith, nat_tests, h)

pub page_at_least : (page : ℕ) → is_valid_page_size page ≡ true → 8 ≤ page
page_at_least page h = grind (arith, nat_tests, h)

pub page_at_most : (page : ℕ) → is_valid_page_size page ≡ true → page ≤ 512
page_at_most page h = grind (arith, nat_tests, h)

-- the padding is shorter than a page
pub aligned_commit_end-below : (page at : ℕ) → 0 < page → aligned_commit_end page at < at + 8 + page
aligned_commit_end-below page at h = omega arith
