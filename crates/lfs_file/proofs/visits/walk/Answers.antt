use Rattle.std.proofs.Common.{ℕ, ◌≡◌, ◌≤◌, ◌<◌, ◌+◌, ◌-◌, List, [], drop, reverse, slice_index, refl, sym, ap, subst, ◌∙◌, arith}
use Rattle.std.proofs.Common.{suc, Result, Err, ◌^◌, ⊎_elim, rules, of_calls}
use Rattle.lfs_file.proofs.Common.{cases_lt, w32, trailing_zeros, HasNotedPointers, visit_count, FoldsTo, LaterPointersName, ArePointersCopied, err_from_is_err_and, drop_all, Blocks, HasBlockSizes, block_bytes, AreListBlocks, IsSkipList, skip_list_block_count, blocks_to_head, word_at}
use Rattle.lfs_file.proofs.Ways.{none_off, one_on}
use Rattle.lfs_device.specs.declared.error.Error.{Error}
use Rattle.lfs_device.specs.declared.geometry.Geometry.{Geometry}
use Rattle.lfs_file.proofs.Sizes.{blocks_for-last}
use Rattle.lfs_file.proofs.Chains.{head_of_back, length_back, in_range_at, back-pointer0}
use Rattle.lfs_file.proofs.Geometries.{chain, sized, count_by}
use Rattle.lfs_file.proofs.Called.{list_as, list_corrupt, list_on, quiet, read_on}
use Rattle.lfs_file.proofs.Walked.{IsChecked, none_checked, more_checked, chain_of_walk, named_of_chain, chain_fits, first_of_distinct, visited_more}
use Rattle.lfs_file.proofs.visits.walk.Goals as goal

pub overflow_sub-last : goal.overflow_sub-last
overflow_sub-last g c =
    let last = blocks_for-last c.geometry-geometry.result.block_size c.args.size c.geometry-geometry.result.valid.no_smaller (omega arith) in
    omega (arith, last.1.0, c.blocks_for-last.ensures)

pub returns-then-last-geometry-clause-corrupt : goal.returns-then-last-geometry-clause-corrupt
returns-then-last-geometry-clause-corrupt g c is listed =
    let ok = sized _ _ _ _ _ c.geometry-geometry.ensures listed in
    let fits = chain_fits _ _ _ (chain _ _ _ _ _ c.geometry-geometry.result.valid.no_smaller c.blocks_for-last.ensures ok) in
    let shape = g.met.D.BlockDevice.shape c.args.dev.now in
    omega (arith, fits, shape.count, c.if-last-geometry.true, ap (λ (k : Geometry). k.block_count) c.geometry-geometry.ensures)

-- the same error of a call with another result
again : {S T : Type 0} (x y : Error) → ◌≡◌ {A = Result S Error} (Err x) (Err y) → ◌≡◌ {A = Result T Error} (Err x) (Err y)
again x y e = let same : x ≡ y = cc in ap Err same

pub returns-in_err-first-clause-corrupt : goal.returns-in_err-first-clause-corrupt
returns-in_err-first-clause-corrupt g c =
    let p = err_from_is_err_and c.from_residual.result c.from_residual.ensures.1 in
    rw (p.1, p.2) (λ is listed. c.in_err-first.ensures.corrupt (again _ _ is)
    (chain _ _ _ _ _ c.geometry-geometry.result.valid.no_smaller c.blocks_for-last.ensures (sized _ _ _ _ _ c.geometry-geometry.ensures listed)))

pub loop-index-init : goal.loop-index-init
loop-index-init g c =
    let old : Blocks = g.D.BlockDevice.blocks c.args.dev.now in
    let last : ℕ = c.blocks_for-last.result - 1 in
    let none : drop (last + 1) (blocks_to_head old (last + 1) c.args.head) ≡ [] = drop_all (last + 1) (blocks_to_head old (last + 1) c.args.head) (let l = length_back old (last + 1) c.args.head in omega arith) in
    record {
      low = omega arith;
      at = sym (head_of_back old last c.args.head);
      checked = none_checked old last c.args.head c.in_ok-first.first (g.D.BlockDevice.geometry c.args.dev.now).block_count _;
      room = refl;
      few = λ ok. (let way = c.in_ok-first.ensures.few in omega arith);
      visited = rw none refl;
      callable = search (rules, of_calls);
      device = c.find_first_block.ensures.reading.device;
      quiet = quiet g.D.BlockDevice c.in_ok-first.ensures.reading.faults;
    }

-- in a list a checked block is right
module _ (d : Blocks) (geometry made : Geometry) (head size n index block : ℕ) (e : made ≡ geometry) (n_is : n ≡ skip_list_block_count made.block_size size) (shape : HasBlockSizes geometry.block_size geometry.block_count d)
    (fits : n - 1 < made.block_count) (some : 0 < index) (le : index ≤ n - 1) (is : block ≡ slice_index (blocks_to_head d (n - 1 + 1) head) index) (listed : IsSkipList d geometry.block_size head size) where
  as_chain : AreListBlocks d (n - 1 + 1) head
  as_chain = chain d made.block_size head size n made.valid.no_smaller n_is (sized d head size geometry made e listed)

  few : n - 1 + 1 ≤ 2 ^ 32
  few = let many = made.valid.no_more in omega arith

  in_range_then : block < geometry.block_count
  in_range_then = let lt = in_range_at d (n - 1 + 1) head index as_chain (omega arith) in omega (arith, lt, is, shape.count)

few_blocks : (made : Geometry) (last : ℕ) → last < made.block_count → last < 2 ^ 32
few_blocks made last fits = let many = made.valid.no_more in omega arith

-- and where all of it is checked it is a list
list_of_walk : (d : Blocks) (head size n first : ℕ) (geometry made : Geometry) → made ≡ geometry → n ≡ skip_list_block_count made.block_size size → HasBlockSizes geometry.block_size geometry.block_count d
    → 1 ≤ size → size < 2 ^ 31 → n - 1 < made.block_count → (words : List ℕ) → IsChecked d (n - 1) head first geometry.block_count 0 words → slice_index (blocks_to_head d (n - 1 + 1) head) 0 ≡ first
    → first < geometry.block_count → LaterPointersName words first 0 (n - 1) → IsSkipList d geometry.block_size head size
list_of_walk d head size n first geometry made e n_is shape low high fits words checked is lt named =
    let many = made.valid.no_more in
    let walked = chain_of_walk d (n - 1) head first words (omega arith) (subst (λ k. IsChecked d (n - 1) head first k 0 words) (sym shape.count) checked) is (omega (arith, lt, shape.count)) named in
    let count : n - 1 + 1 ≡ skip_list_block_count geometry.block_size size = count_by geometry made size n e low n_is in
    let whole : AreListBlocks d (skip_list_block_count geometry.block_size size) head = subst (λ k. AreListBlocks d k head) count walked in
    record { size_low = low; size_high = high; blocks = whole }

pub returns-in_err-before-clause-corrupt : goal.returns-in_err-before-clause-corrupt
returns-in_err-before-clause-corrupt g c =
    let inv = c.loop-index.invariant in
    let p = err_from_is_err_and c.from_residual-in_err-before.result c.from_residual-in_err-before.ensures.1 in
    rw (p.1, p.2) (λ is listed.
    let shape = g.met.D.BlockDevice.shape c.args.dev.now in
    let made = c.geometry-geometry.ensures in
    let refused = rw (inv.device.geometry) at c.in_err-before.ensures.checks.corrupt in
    refused (again _ _ is)
    (in_range_then _ _ _ _ _ _ _ _ made c.blocks_for-last.ensures shape c.if-last-geometry.false (omega arith) inv.low inv.at listed)
    (named_of_chain _ _ c.args.head _ _ c.loop-index.index _ (few_blocks c.geometry-geometry.result _ c.if-last-geometry.false) inv.checked
    (chain _ _ _ _ _ c.geometry-geometry.result.valid.no_smaller c.blocks_for-last.ensures (sized _ _ _ _ _ made listed)) inv.low c.loop-index.block inv.at))

pub returns-in_err-before-clause-reading : goal.returns-in_err-before-clause-reading
returns-in_err-before-clause-reading g c =
    let p = err_from_is_err_and c.from_residual-in_err-before.result c.from_residual-in_err-before.ensures.1 in
    rw (p.1, p.2) (list_on g.D.BlockDevice c.loop-index.invariant.device c.loop-index.invariant.quiet (list_as g.D.BlockDevice c.in_err-before.ensures.reading))

pub returns-then-block-first-clause-corrupt : goal.returns-then-block-first-clause-corrupt
returns-then-block-first-clause-corrupt g c is listed =
    let inv = c.loop-index.invariant in
    let ok = chain _ _ _ _ _ c.geometry-geometry.result.valid.no_smaller c.blocks_for-last.ensures (sized _ _ _ _ _ c.geometry-geometry.ensures listed) in
    first_of_distinct (g.D.BlockDevice.blocks c.args.dev.now) (c.blocks_for-last.result - 1 + 1) c.args.head ok.distinct c.loop-index.index (omega arith) (omega (arith, inv.low)) (sym inv.at ∙ c.if-block-first.true ∙ c.in_ok-first.ensures.found ok)

pub returns-then-block-first-clause-reading : goal.returns-then-block-first-clause-reading
returns-then-block-first-clause-reading g c =
    let inv = c.loop-index.invariant in
    let read = c.in_ok-before.ensures.reading in
    list_corrupt g.D.BlockDevice (read_on g.D.BlockDevice inv.device read.device) (quiet g.D.BlockDevice read.faults ∙ inv.quiet)

pub loop-index-preserved : goal.loop-index-preserved
loop-index-preserved g c =
    let inv = c.loop-index.invariant in
    let old : Blocks = g.D.BlockDevice.blocks c.args.dev.now in
    let last : ℕ = c.blocks_for-last.result - 1 in
    let index : ℕ = c.loop-index.index in
    let bs : List ℕ = blocks_to_head old (last + 1) c.args.head in
    let size = length_back old (last + 1) c.args.head in
    let next : suc (index - 1) ≡ index = omega arith in
    record {
      low = (let l = inv.low in omega arith);
      at = c.in_ok-before.ensures.word
          ∙ ap (λ d. word_at (block_bytes d c.loop-index.block) 0) inv.device.same
          ∙ ap (λ b. word_at (block_bytes old b) 0) (inv.at ∙ ap (slice_index bs) (sym next))
          ∙ back-pointer0 old (last + 1) c.args.head (index - 1) (let l = inv.low in omega arith);
      checked = more_checked old last c.args.head c.in_ok-first.first _ index c.loop-index.block _ _ (few_blocks c.geometry-geometry.result last c.if-last-geometry.false) (omega arith) inv.checked inv.at
          c.in_ok-before.ensures.checks.right.1
          (subst (λ d. ArePointersCopied d c.loop-index.block index c.loop-index.words c.check_block.new.words) inv.device.same c.in_ok-before.ensures.noted)
          inv.low
          (omega (arith, c.in_ok-before.ensures.checks.right.0, ap (λ (k : Geometry). k.block_count) inv.device.geometry))
          c.if-block-first.false;
      room = c.check_block.auto.words ∙ inv.room;
      few = λ ok.
          let so_far = inv.few ok in
          let one = c.check_block.ensures.reads.few in
          ⊎_elim
          (λ on.
          let none = c.check_block.ensures.reads.known on (c.in_ok-first.ensures.noted.blocks ok index (omega arith) inv.low on ∙ sym inv.at) in
          let here = one_on last index (omega arith) on in
          omega arith)
          (λ off.
          let here = none_off last index (omega arith) (λ on. absurd (omega arith)) in
          omega arith)
          (cases_lt (last - index) (2 ^ trailing_zeros w32 index));
      visited = visited_more _ _ _ c.visit.new.self bs index c.loop-index.block (index - 1 + 1) (omega (arith, size, inv.low)) inv.at (omega arith) inv.visited (search (rules, of_calls));
      callable = search (rules, of_calls);
      device = read_on g.D.BlockDevice inv.device c.check_block.ensures.reading.device;
      quiet = quiet g.D.BlockDevice c.in_ok-before.ensures.reading.faults ∙ inv.quiet;
    }

pub check_block-requires : goal.check_block-requires
check_block-requires g c = record {
  some = search rules;
  order = search rules;
  room = search rules;
  way = subst (λ d. HasNotedPointers d (c.blocks_for-last.result - 1) 0 c.find_first_block.new.way) (sym c.loop-index.invariant.device.same) c.in_ok-first.ensures.noted.words;
}

pub returns-then-block-first-2-clause-corrupt : goal.returns-then-block-first-2-clause-corrupt
returns-then-block-first-2-clause-corrupt g c is listed =
    let inv = c.loop-index.invariant in
    let ok = chain _ _ _ _ _ c.geometry-geometry.result.valid.no_smaller c.blocks_for-last.ensures (sized _ _ _ _ _ c.geometry-geometry.ensures listed) in
    let none : c.loop-index.index ≡ 0 = omega arith in
    c.if-block-first-2.true (inv.at ∙ ap (slice_index _) none ∙ sym (c.in_ok-first.ensures.found ok))

pub returns-clause-listed : goal.returns-clause-listed
returns-clause-listed g c =
    let inv = c.loop-index.invariant in
    let old : Blocks = g.D.BlockDevice.blocks c.args.dev.now in
    let last : ℕ = c.blocks_for-last.result - 1 in
    let shape = g.met.D.BlockDevice.shape c.args.dev.now in
    let none : c.loop-index.index ≡ 0 = omega arith in
    let first = c.in_ok-first.ensures.in_range in
    let is : slice_index (blocks_to_head old (last + 1) c.args.head) 0 ≡ c.in_ok-first.first = ap (slice_index (blocks_to_head old (last + 1) c.args.head)) (sym none) ∙ sym inv.at ∙ c.if-block-first-2.false in
    let list =
    list_of_walk old c.args.head c.args.size c.blocks_for-last.result c.in_ok-first.first _ _ c.geometry-geometry.ensures c.blocks_for-last.ensures shape (omega arith) (omega arith) (omega arith)
    _ (subst (λ k. IsChecked old last c.args.head c.in_ok-first.first (g.D.BlockDevice.geometry c.args.dev.now).block_count k c.loop-index.words) none inv.checked) is first
    (subst (λ b. LaterPointersName c.loop-index.words b 0 last) c.if-block-first-2.false (c.if-not-pointers_agree.ensures.yes refl)) in
    record {
      list = list;
      few =
          let ok = chain _ _ _ _ _ c.geometry-geometry.result.valid.no_smaller c.blocks_for-last.ensures (sized _ _ _ _ _ c.geometry-geometry.ensures list) in
          let few = c.loop-index.invariant.few ok in
          let unseen : visit_count last c.loop-index.index ≡ 0 = ap (visit_count last) (let e : c.loop-index.index ≡ 0 = omega arith in e) in
          let count = count_by (g.D.BlockDevice.geometry c.args.dev.now) c.geometry-geometry.result c.args.size c.blocks_for-last.result c.geometry-geometry.ensures (omega arith) c.blocks_for-last.ensures in
          omega (arith, few, unseen, count);
    }

pub returns-clause-visited : goal.returns-clause-visited
returns-clause-visited g c =
    let inv = c.loop-index.invariant in
    let old : Blocks = g.D.BlockDevice.blocks c.args.dev.now in
    let last : ℕ = c.blocks_for-last.result - 1 in
    let bs : List ℕ = blocks_to_head old (last + 1) c.args.head in
    let size = length_back old (last + 1) c.args.head in
    let all = visited_more _ _ _ c.visit-2.new.self bs c.loop-index.index c.loop-index.block 0 (omega (arith, size, inv.low)) inv.at (omega arith) inv.visited (search (rules, of_calls)) in
    subst (λ n. FoldsTo (λ p x q. goal.F-step g p x tt q) c.args.visit.now (reverse (blocks_to_head old n c.args.head)) c.visit-2.new.self)
    (count_by (g.D.BlockDevice.geometry c.args.dev.now) c.geometry-geometry.result c.args.size c.blocks_for-last.result c.geometry-geometry.ensures (omega arith) c.blocks_for-last.ensures) all

pub returns-then-not-pointers_agree-clause-corrupt : goal.returns-then-not-pointers_agree-clause-corrupt
returns-then-not-pointers_agree-clause-corrupt g c is listed =
    let inv = c.loop-index.invariant in
    let ok = chain _ _ _ _ _ c.geometry-geometry.result.valid.no_smaller c.blocks_for-last.ensures (sized _ _ _ _ _ c.geometry-geometry.ensures listed) in
    let none : c.loop-index.index ≡ 0 = omega arith in
    c.if-not-pointers_agree.ensures.no refl (subst (λ k. LaterPointersName c.loop-index.words c.loop-index.block k (c.blocks_for-last.result - 1)) none
    (named_of_chain _ _ c.args.head _ _ c.loop-index.index _ (few_blocks c.geometry-geometry.result _ c.if-last-geometry.false) inv.checked ok inv.low c.loop-index.block inv.at))
