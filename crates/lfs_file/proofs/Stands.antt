-- A list being extended, on a disk, and on one that has the same bytes in the list's blocks.
use Rattle.std.proofs.Common.{ℕ, true, ◌≡◌, ◌≢◌, ◌+◌, ◌*◌, ◌-◌, ◌<◌, List, [], ◌∷◌, ◌++◌, length, take, drop, refl, sym, ap, ap₂, subst, ◌∙◌, arith, length-append}
use Rattle.std.specs.Prelude.{All}
use Rattle.lfs_file.proofs.Common.{recursion_from_All, Same, back_same, data_same, Blocks, HasBlockSizes, block_bytes, AreListBlocks, bytes_before_block, blocks_to_head, pointer_count, ListHasBytes, HasBufferedBytes, GrowingList, DiskHasList, IsAllBuffered, IsRestAt, IsRestShort, growing_blocks, growing_bytes, lacks_last_block, blocks_data, lasting_blocks, rest_block, unwritten_rest_block, growing_size_with, AreKnownBlocks}
use Rattle.lfs_device.specs.declared.geometry.Geometry.{Geometry}
use Rattle.lfs_model.proofs.Counts.{each_left, each_right}
use Rattle.lfs_model.proofs.Files.{chain_same}
use Rattle.lfs_file.specs.declared.rest.RestLocation.{RestLocation}
use Rattle.lfs_file.specs.declared.rest.RestLocation.TheVariants.{Closed, Shared, Handed, Held}
use Rattle.lfs_file.specs.Growing.{SameListLater}
use Rattle.lfs_file.proofs.Filling.{length-full, none_chain}

module _ (d later : Blocks) (count : length later ≡ length d) where
  abbrev IsSame : ℕ → Type 0
  IsSame b = block_bytes later b ≡ block_bytes d b

  rest_same : (full head : ℕ) (rest : List ℕ) (t : RestLocation) → Same d later (blocks_to_head d full head ++ rest_block t) → IsRestAt d full head rest t → IsRestAt later full head rest t
  rest_same full head rest Closed same is = is
  rest_same full head rest (Shared b) same is =
      let all : Same d later (blocks_to_head d (full + 1) b) = subst (Same d later) (sym is.back) same in
      let front = each_left IsSame (blocks_to_head d full head) (b ∷ []) same in
      record {
        some = is.some;
        chain = chain_same d later (full + 1) b count all is.chain;
        back = back_same d later (full + 1) b all ∙ is.back ∙ ap (λ (l : List ℕ). l ++ b ∷ []) (sym (back_same d later full head front));
        begins = ap (λ (l : List ℕ). take (length rest) (drop (4 * pointer_count full) l)) (each_right IsSame (blocks_to_head d full head) (b ∷ []) same).0 ∙ is.begins;
      }
  rest_same full head rest (Handed b) same is =
      let front = each_left IsSame (blocks_to_head d full head) (b ∷ []) same in
      record {
        some = is.some;
        in_range = omega (arith, is.in_range, count);
        apart = subst (λ (l : List ℕ). All (λ c. c ≢ b) l) (sym (back_same d later full head front)) is.apart;
      }
  rest_same full head rest Held same is = is

  pub still : (g : GrowingList) → All IsSame (growing_blocks d g) → DiskHasList d g → SameListLater d later g
  still g same is =
      let each : Same d later (blocks_to_head d g.full g.head ++ rest_block g.stand) = recursion_from_All IsSame (growing_blocks d g) same in
      let front = each_left IsSame (blocks_to_head d g.full g.head) (rest_block g.stand) each in
      let back = back_same d later g.full g.head front in
      record {
        growing = record { chain = chain_same d later g.full g.head count front is.chain; known = subst (λ (l : List ℕ). AreKnownBlocks l g.known) (sym back) is.known; stand = rest_same g.full g.head g.rest g.stand each is.stand };
        content = ap (λ (l : List ℕ). l ++ g.rest) (ap (blocks_data later) back ∙ data_same d later 0 (blocks_to_head d g.full g.head) front);
        kept = ap (λ (l : List ℕ). l ++ unwritten_rest_block g.stand) back;
        blocks = ap (λ (l : List ℕ). l ++ rest_block g.stand) back;
      }

-- what a list shows, from what doesn't follow
pub is_grown : (divided : Geometry) (d : Blocks) (e : GrowingList) (bytes : List ℕ) (size count : ℕ) (own all : List ℕ) → HasBlockSizes divided.block_size count d → e.geometry ≡ divided
    → IsRestShort e.geometry.block_size e → DiskHasList d e → growing_bytes d e ≡ bytes → growing_size_with divided.block_size e ≡ size → lasting_blocks d e ≡ own → growing_blocks d e ≡ all
    → ListHasBytes divided d e bytes size own all
is_grown divided d e bytes size count own all shape geometry short growing content sum kept blocks =
    let full = length-full d divided.block_size count e.full e.head divided.valid.no_smaller shape growing.chain in
    record {
      geometry = geometry;
      growing = growing;
      content = content;
      sum = sum;
      whole = omega (arith, ap length content, full, sum, length-append (blocks_data d (blocks_to_head d e.full e.head)) e.rest);
      kept = kept;
      blocks = blocks;
      short = subst (λ (k : Geometry). length e.rest < k.block_size - 4 * pointer_count e.full) geometry short;
      stays = λ later count same. still d later count e (subst (All (λ b. block_bytes later b ≡ block_bytes d b)) (sym blocks) same) growing;
    }

-- all bytes in memory
pub stands_held : (t : RestLocation) → lacks_last_block t ≡ true → t ≡ Held
stands_held Closed is = absurd (cc)
stands_held (Shared b) is = absurd (cc)
stands_held (Handed b) is = absurd (cc)
stands_held Held is = refl

module _ (divided : Geometry) (e : GrowingList) (bytes : List ℕ) (size : ℕ) (geometry : e.geometry ≡ divided) (none : e.full ≡ 0) (short : IsRestShort e.geometry.block_size e) (rest : e.rest ≡ bytes) (long : length bytes ≡ size) where
  nothing : (d : Blocks) → blocks_to_head d e.full e.head ≡ []
  nothing d = ap (λ k. blocks_to_head d k e.head) none

  alone : (d : Blocks) → DiskHasList d e → lasting_blocks d e ≡ [] → growing_blocks d e ≡ [] → ListHasBytes divided d e bytes size [] []
  alone d growing kept blocks = record {
    geometry = geometry;
    growing = growing;
    content = ap (λ (l : List ℕ). blocks_data d l ++ e.rest) (nothing d) ∙ rest;
    sum = omega (arith, ap (bytes_before_block divided.block_size) none, ap length rest, long);
    whole = long;
    kept = kept;
    blocks = blocks;
    short = subst (λ (k : Geometry). length e.rest < k.block_size - 4 * pointer_count e.full) geometry short;
    stays = λ later count same. still d later count e (subst (All (λ b. block_bytes later b ≡ block_bytes d b)) (sym blocks) same) growing;
  }

  chained : (d : Blocks) → AreListBlocks d e.full e.head
  chained d = subst (λ k. AreListBlocks d k e.head) (sym none) (none_chain d e.head)

  none_known : (d : Blocks) → AreKnownBlocks (blocks_to_head d e.full e.head) e.known
  none_known d row lt small within = absurd (omega (arith, within, ap length (nothing d)))

  pub grown_held : e.stand ≡ Held → (d : Blocks) → ListHasBytes divided d e bytes size [] []
  grown_held is d =
      alone d
      (record { chain = chained d; known = none_known d; stand = subst (IsRestAt d e.full e.head e.rest) (sym is) none })
      (ap₂ (λ (x y : List ℕ). x ++ y) (nothing d) (ap unwritten_rest_block is))
      (ap₂ (λ (x y : List ℕ). x ++ y) (nothing d) (ap rest_block is))

  pub grown_closed : e.stand ≡ Closed → bytes ≡ [] → (d : Blocks) → ListHasBytes divided d e bytes size [] []
  grown_closed is empty d =
      alone d
      (record { chain = chained d; known = none_known d; stand = subst (IsRestAt d e.full e.head e.rest) (sym is) (rest ∙ empty) })
      (ap₂ (λ (x y : List ℕ). x ++ y) (nothing d) (ap unwritten_rest_block is))
      (ap₂ (λ (x y : List ℕ). x ++ y) (nothing d) (ap rest_block is))

pub is_holding : (divided : Geometry) (e : GrowingList) (bytes : List ℕ) → e.geometry ≡ divided → IsRestShort e.geometry.block_size e → e.rest ≡ bytes → IsAllBuffered e → HasBufferedBytes divided e bytes
is_holding divided e bytes geometry short rest held = record {
  held = held;
  rest = rest;
  holds = grown_held divided e bytes (length bytes) geometry held.none short rest refl (stands_held e.stand held.held);
}
