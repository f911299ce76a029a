-- The number of blocks in flight, and the contents after a write.
use Rattle.std.proofs.Common.{ℕ, ◌≡◌, ◌≢◌, ◌+◌, ◌*◌, ◌-◌, ◌≤◌, inl, inr, ⊎_elim, Bool, true, false, if◌then◌else◌, List, [], ◌++◌, length, take, drop, max, min, replicate, refl, sym, ap, ◌∙◌, subst, arith, length-append, length-drop}
use Rattle.std.specs.Prelude.{Contains}
use Rattle.lfs_file.proofs.Common.{drop-append-add, cases_eq, cases_lt, Contains-append_left, Contains-append_right, append-nil, take_all, drop_all, length-replicate, length-take, length-take-le, replicate-append-replicate, take_at, drop-drop, Blocks, HasBlockSizes, BlockStates, in_flight_count, written_contents, zero_padded, blocks_to_head, skip_list_block_count, list_bytes, GrowingList, DiskHasList, growing_bytes, blocks_data, lasting_blocks, unwritten_block, growing_size_with, KeepsTakenBytes, IsListOrEmpty, blocks_of_list, SharesFirstBlocks, IsFinishedList, stored_list_bytes, in_flight_limit, length_back, skip_list_block_count-more}
use Rattle.lfs_model.specs.format.Blocks.{overwritten_at as in_block}
use Rattle.lfs_model.proofs.Overwrites.{overwritten_next, overwritten_none}
use Rattle.lfs_device.specs.declared.geometry.Geometry.{Geometry}
use Rattle.lfs_file.specs.Hand.{bytes_over_base}
use Rattle.lfs_file.specs.declared.stored_list.StoredList.{StoredList}
use Rattle.lfs_model.proofs.BlockCounts.{few_flying}
use Rattle.lfs_model.proofs.ListSizes.{length-back_data, length-list_bytes}
use Rattle.lfs_file.proofs.Bases.{bytes_stay}

-- ---- contents

-- a device is divided so, under either name of its geometry
pub shaped : (d : Blocks) (geometry now : Geometry) → geometry ≡ now → HasBlockSizes geometry.block_size geometry.block_count d → HasBlockSizes now.block_size geometry.block_count d
shaped d geometry now same shape = subst (λ (k : Geometry). HasBlockSizes k.block_size geometry.block_count d) same shape

-- a list in hand has as many bytes as its size says
pub length-content : (d : Blocks) (block_size count : ℕ) (g : GrowingList) → 1024 ≤ block_size → HasBlockSizes block_size count d → DiskHasList d g → length (growing_bytes d g) ≡ growing_size_with block_size g
length-content d block_size count g large shape growing =
    omega (arith, length-append (blocks_data d (blocks_to_head d g.full g.head)) g.rest, length-back_data d block_size count g.full g.head large shape growing.chain.in_range)

-- bytes at the end of those in hand are written over what the base has there
pub written_on : (content base bytes : List ℕ) (end : ℕ) → length content ≡ end → (content ++ bytes) ++ drop (end + length bytes) base ≡ written_contents (content ++ drop end base) end bytes
written_on content base bytes end is =
    let old : List ℕ = content ++ drop end base in
    let long : end ≤ length old = omega (arith, length-append content (drop end base)) in
    let zeros : zero_padded end old ≡ old = ap (λ n. old ++ replicate n 0) (let z : end - length old ≡ 0 = omega arith in z) ∙ append-nil old in
    let front : take end (zero_padded end old) ≡ content = ap (take end) zeros ∙ take_at content (drop end base) end is in
    let behind : drop (end + length bytes) old ≡ drop (end + length bytes) base =
    ap (λ n. drop (n + length bytes) old) (sym is) ∙ drop-append-add content (drop end base) (length bytes) ∙ drop-drop (length bytes) end base in
    sym (ap (λ (l : List ℕ). l ++ bytes ++ drop (end + length bytes) old) front ∙ ap (λ (l : List ℕ). content ++ bytes ++ l) behind)

-- ---- how many blocks a file that is written has in flight

lent : Bool → List ℕ → List ℕ
lent t bs = if t then bs else []

in_lent : (t : Bool) (bs : List ℕ) (b : ℕ) → t ≡ true → Contains bs b → Contains (lent t bs) b
unfolding lent
in_lent t bs b is has = subst (λ (v : Bool). Contains (lent v bs) b) (sym is) has

length-lent : (d : Blocks) (block_size : ℕ) (s : StoredList) (t : Bool) → length (lent t (blocks_of_list d block_size s.head s.size)) ≡ (if t then skip_list_block_count block_size s.size else 0)
unfolding lent
length-lent d block_size s true = length_back d (skip_list_block_count block_size s.size) s.head
length-lent d block_size s false = refl

pub stored_flying : (map : BlockStates) (d : Blocks) (block_size : ℕ) (s : StoredList) → IsFinishedList map d block_size s → in_flight_count map ≤ in_flight_limit block_size s
stored_flying map d block_size s stored =
    let bb : List ℕ = blocks_of_list d block_size s.head s.size in
    let few = few_flying (lent s.in_flight bb) map (λ b is. in_lent s.in_flight bb b (stored.flying b is).0 (stored.flying b is).1) in
    omega (arith, few, length-lent d block_size s s.in_flight)

pub begun_flying : (map : BlockStates) (d : Blocks) (block_size : ℕ) (g : GrowingList) (base : StoredList) (shared : ℕ) → SharesFirstBlocks map d block_size g base shared → in_flight_count map ≤ length (lasting_blocks d g) + in_flight_limit block_size base
begun_flying map d block_size g base shared begun =
    let bb : List ℕ = blocks_of_list d block_size base.head base.size in
    let few = few_flying (lasting_blocks d g ++ lent base.in_flight bb) map (λ b is. ⊎_elim
    (λ has. Contains-append_left (lasting_blocks d g) (lent base.in_flight bb) b has)
    (λ both. Contains-append_right (lasting_blocks d g) (lent base.in_flight bb) b (in_lent base.in_flight bb b both.0 both.1))
    (begun.flying b is)) in
    omega (arith, few, length-append (lasting_blocks d g) (lent base.in_flight bb), length-lent d block_size base base.in_flight)

-- ---- a list in hand that grows, also under another name of the geometry

pub wrote : (map : BlockStates) (d e : Blocks) (geometry now : Geometry) (g h : GrowingList) (base : StoredList) (shared : ℕ) (bytes : List ℕ) → now ≡ geometry → SharesFirstBlocks map d geometry.block_size g base shared → KeepsTakenBytes map (unwritten_block g) d e
    → growing_bytes e h ≡ growing_bytes d g ++ bytes → growing_size_with now.block_size h ≡ growing_size_with geometry.block_size g + length bytes → length (growing_bytes d g) ≡ growing_size_with geometry.block_size g
    → bytes_over_base e now.block_size h base ≡ written_contents (bytes_over_base d geometry.block_size g base) (growing_size_with geometry.block_size g) bytes
wrote map d e geometry now g h base shared bytes same begun spared content sum long =
    let end : ℕ = growing_size_with geometry.block_size g in
    let old : List ℕ = list_bytes d geometry.block_size base.head base.size in
    let stay : list_bytes e now.block_size base.head base.size ≡ old =
    ap (λ (k : Geometry). list_bytes e k.block_size base.head base.size) same ∙ bytes_stay map (unwritten_block g) d e geometry.block_size base.head base.size spared begun.apart in
    ap (λ (l : List ℕ). l ++ drop (growing_size_with now.block_size h) (list_bytes e now.block_size base.head base.size)) content
    ∙ ap (λ n. growing_bytes d g ++ bytes ++ drop n (list_bytes e now.block_size base.head base.size)) sum
    ∙ ap (λ (l : List ℕ). growing_bytes d g ++ bytes ++ drop (end + length bytes) l) stay
    ∙ written_on (growing_bytes d g) old bytes end long

lent_count : (t : Bool) (n : ℕ) → (if t then n else 0) ≤ n
lent_count true n = omega arith
lent_count false n = omega arith

-- at most all of a base's blocks are in flight
pub in_flight_limit-le : (block_size : ℕ) (s : StoredList) → in_flight_limit block_size s ≤ skip_list_block_count block_size s.size
in_flight_limit-le block_size s = lent_count s.in_flight (skip_list_block_count block_size s.size)

-- room for two lists is room for each that comes
pub two_fit : (geometry now : Geometry) (s : StoredList) (used all most end size : ℕ) → now ≡ geometry → s.size ≡ size → size ≤ most → end ≤ most → used + 2 * skip_list_block_count geometry.block_size most ≤ all
    → used + skip_list_block_count now.block_size end + in_flight_limit now.block_size s ≤ all
two_fit geometry now s used all most end size same is low high room =
    let first = skip_list_block_count-more now.block_size end most high in
    let second = skip_list_block_count-more now.block_size s.size most (omega arith) in
    let few = in_flight_limit-le now.block_size s in
    let e : skip_list_block_count now.block_size most ≡ skip_list_block_count geometry.block_size most = ap (λ (k : Geometry). skip_list_block_count k.block_size most) same in
    omega arith

-- ---- writes one behind the other

pub zeros_not : (old : List ℕ) (at : ℕ) → at ≤ length old → zero_padded at old ≡ old
zeros_not old at le = ap (λ n. old ++ replicate n 0) (let z : at - length old ≡ 0 = omega arith in z) ∙ append-nil old

pub as_block : (old : List ℕ) (at : ℕ) (bytes : List ℕ) → at ≤ length old → written_contents old at bytes ≡ in_block old at bytes
as_block old at bytes le = ap (λ (l : List ℕ). take at l ++ bytes ++ drop (at + length bytes) old) (zeros_not old at le)

length-written : (old : List ℕ) (at : ℕ) (bytes : List ℕ) → at ≤ length old → at + length bytes ≤ length (in_block old at bytes)
length-written old at bytes le = omega (arith, length-append (take at old ++ bytes) (drop (at + length bytes) old), length-append (take at old) bytes, length-take-le at old le)

pub wrote_none : (old : List ℕ) (at : ℕ) → at ≤ length old → old ≡ written_contents old at []
wrote_none old at le = sym (as_block old at [] le ∙ overwritten_none old at)

pub wrote_more : (old : List ℕ) (at : ℕ) (first second : List ℕ) → at ≤ length old → written_contents (written_contents old at first) (at + length first) second ≡ written_contents old at (first ++ second)
wrote_more old at first second le =
    ap (λ (l : List ℕ). written_contents l (at + length first) second) (as_block old at first le)
    ∙ as_block (in_block old at first) (at + length first) second (length-written old at first le)
    ∙ overwritten_next old at first second le
    ∙ sym (as_block old at (first ++ second) le)

-- more zeros
pub more_zeros : (old now new part : List ℕ) (at size done n : ℕ) → at ≤ length old → now ≡ written_contents old at (replicate done 0) → size ≡ at + done → part ≡ replicate n 0 → new ≡ written_contents now size part → new ≡ written_contents old at (replicate (done + n) 0)
more_zeros old now new part at size done n le so_far is zeros written =
    written
    ∙ ap (λ (l : List ℕ). written_contents l size part) so_far
    ∙ ap (λ k. written_contents (written_contents old at (replicate done 0)) k part) (is ∙ ap (λ k. at + k) (sym (length-replicate done 0)))
    ∙ wrote_more old at (replicate done 0) part le
    ∙ ap (λ (l : List ℕ). written_contents old at (replicate done 0 ++ l)) zeros
    ∙ ap (written_contents old at) (replicate-append-replicate done n 0)

-- the bytes in hand are among the contents
pub in_hand : (d : Blocks) (block_size count : ℕ) (g : GrowingList) (base : StoredList) → 1024 ≤ block_size → HasBlockSizes block_size count d → DiskHasList d g → growing_size_with block_size g ≤ length (bytes_over_base d block_size g base)
in_hand d block_size count g base large shape growing =
    omega (arith, length-content d block_size count g large shape growing, length-append (growing_bytes d g) (drop (growing_size_with block_size g) (stored_list_bytes d block_size base)))

-- room for all is room for a part
pub part_fits : (geometry now : Geometry) (s t : StoredList) (used was all was_all size end : ℕ) → now ≡ geometry → s ≡ t → size ≤ end → used ≡ was → all ≡ was_all → was + skip_list_block_count geometry.block_size end + in_flight_limit geometry.block_size t ≤ was_all
    → used + skip_list_block_count now.block_size size + in_flight_limit now.block_size s ≤ all
part_fits geometry now s t used was all was_all size end same base le is count room =
    let first = skip_list_block_count-more now.block_size size end le in
    let e : skip_list_block_count now.block_size end ≡ skip_list_block_count geometry.block_size end = ap (λ (k : Geometry). skip_list_block_count k.block_size end) same in
    let f : in_flight_limit now.block_size s ≡ in_flight_limit geometry.block_size t = ap (λ (k : Geometry). in_flight_limit k.block_size s) same ∙ ap (in_flight_limit geometry.block_size) base in
    omega arith

-- ---- a gap

-- a base has as many bytes as its size says
pub length-base : (d : Blocks) (block_size count head size : ℕ) → 1024 ≤ block_size → HasBlockSizes block_size count d → IsListOrEmpty d block_size head size → length (list_bytes d block_size head size) ≡ size
length-base d block_size count head size large shape (inl none) = omega (arith, length-take size (blocks_data d (blocks_of_list d block_size head size)))
length-base d block_size count head size large shape (inr list) = length-list_bytes d block_size count head size large shape list

-- the contents are as long as the longer of both
pub length-hand : (d : Blocks) (block_size count : ℕ) (g : GrowingList) (base : StoredList) → 1024 ≤ block_size → HasBlockSizes block_size count d → DiskHasList d g → IsListOrEmpty d block_size base.head base.size → length (bytes_over_base d block_size g base) ≡ max (growing_size_with block_size g) base.size
length-hand d block_size count g base large shape growing based =
    omega (
      arith,
      length-content d block_size count g large shape growing,
      length-base d block_size count base.head base.size large shape based,
      length-append (growing_bytes d g) (drop (growing_size_with block_size g) (stored_list_bytes d block_size base)),
      length-drop (growing_size_with block_size g) (stored_list_bytes d block_size base),
    )

-- bytes at the end or behind it
pub at_end : (old bytes : List ℕ) (place : ℕ) → length old ≤ place → written_contents old place bytes ≡ zero_padded place old ++ bytes
at_end old bytes place le =
    let zeros : List ℕ = zero_padded place old in
    let long : length zeros ≡ place = omega (arith, length-append old (replicate (place - length old) 0), length-replicate {A = ℕ} (place - length old) 0) in
    ap (λ (l : List ℕ). l ++ bytes ++ drop (place + length bytes) old) (take_all place zeros (omega arith))
    ∙ ap (λ (l : List ℕ). zeros ++ bytes ++ l) (drop_all (place + length bytes) old (omega arith))
    ∙ append-nil (zeros ++ bytes)

-- zeros up to a place, and bytes there
pub wrote_past : (old bytes : List ℕ) (len place : ℕ) → length old ≡ len → len ≤ place → written_contents (written_contents old len (replicate (place - len) 0)) place bytes ≡ written_contents old place bytes
wrote_past old bytes len place is le =
    let gap : List ℕ = replicate (place - len) 0 in
    let mid : List ℕ = old ++ gap in
    let first : written_contents old len gap ≡ mid = at_end old gap len (omega arith) ∙ ap (λ (l : List ℕ). l ++ gap) (zeros_not old len (omega arith)) in
    let long : length mid ≡ place = omega (arith, length-append old gap, length-replicate {A = ℕ} (place - len) 0) in
    ap (λ (l : List ℕ). written_contents l place bytes) first
    ∙ at_end mid bytes place (omega arith)
    ∙ ap (λ (l : List ℕ). l ++ bytes) (zeros_not mid place (omega arith))
    ∙ ap (λ n. old ++ replicate (place - n) 0 ++ bytes) (sym is)
    ∙ sym (at_end old bytes place (omega arith))

-- a write at a place, over zeros up to it where there is a gap
pub wrote_gap : (old bytes : List ℕ) (len place begin : ℕ) → length old ≡ len → begin ≡ min place len → written_contents (written_contents old begin (replicate (place - begin) 0)) place bytes ≡ written_contents old place bytes
wrote_gap old bytes len place begin is at = ⊎_elim
    (λ less. let e : begin ≡ len = omega arith in
    ap (λ n. written_contents (written_contents old n (replicate (place - n) 0)) place bytes) e ∙ wrote_past old bytes len place is (omega arith))
    (λ ge.
    let e : begin ≡ place = omega arith in
    let z : place - place ≡ 0 = omega arith in
    ap (λ n. written_contents (written_contents old n (replicate (place - n) 0)) place bytes) e
    ∙ ap (λ n. written_contents (written_contents old place (replicate n 0)) place bytes) z
    ∙ ap (λ (l : List ℕ). written_contents l place bytes) (sym (wrote_none old place (omega arith))))
    (cases_lt len place)

-- there is room for one list more over the base as it is, or for two
pub either_fits : (geometry now : Geometry) (s t : StoredList) (used was all was_all end begin len last size : ℕ) → now ≡ geometry → used ≡ was → all ≡ was_all → size ≤ last
    → (end ≡ begin → s ≡ t) → (end ≢ begin → s.size ≡ len) → (end ≡ begin → was + skip_list_block_count geometry.block_size last + in_flight_limit geometry.block_size t ≤ was_all)
    → (end ≢ begin → was + 2 * skip_list_block_count geometry.block_size (max len last) ≤ was_all) → used + skip_list_block_count now.block_size size + in_flight_limit now.block_size s ≤ all
either_fits geometry now s t used was all was_all end begin len last size same is count le stays grows on anew = ⊎_elim
    (λ e. part_fits geometry now s t used was all was_all size last same (stays e) le is count (on e))
    (λ ne. let room = anew ne in two_fit geometry now s used all (max len last) size len same (grows ne) (omega arith) (omega arith) (omega arith))
    (cases_eq end begin)

pub wrote_all : (old turned zeroed new bytes : List ℕ) (len place begin at end : ℕ) → length old ≡ len → begin ≡ min place len → turned ≡ old → at ≡ begin → zeroed ≡ written_contents turned at (replicate (place - begin) 0) → end ≡ place
    → new ≡ written_contents zeroed end bytes → new ≡ written_contents old place bytes
wrote_all old turned zeroed new bytes len place begin at end is from same here zeros there written =
    let gap : List ℕ = replicate (place - begin) 0 in
    written
    ∙ ap (λ n. written_contents zeroed n bytes) there
    ∙ ap (λ (x : List ℕ). written_contents x place bytes) (zeros ∙ ap (λ n. written_contents turned n gap) here ∙ ap (λ (x : List ℕ). written_contents x begin gap) same)
    ∙ wrote_gap old bytes len place begin is from
