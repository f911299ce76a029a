use Rattle.std.proofs.Common.{refl, ℕ, ◌≡◌, ◌≤◌, ◌<◌, ◌+◌, ◌-◌, ◌*◌, ◌^◌, ◌++◌, ◌⊎◌, inl, inr, List, [], ◌∷◌, length, take, drop, slice_index, Result, Err, sym, ap, subst, ◌∙◌, arith, Global, Vec, false, length-append}
use Rattle.lfs_file.proofs.Common.{with_items, append-nil, length-take, with_items_is, err_from_is_err_and, Blocks, HasBlockSizes, block_bytes, AreListBlocks, IsSkipList, IsByteInListBlock, pointer_count, bytes_before_block, blocks_to_head, skip_list_block_count, list_bytes, word_at, OnlyBelowKnown, CallEvent, read_count, growing_view, CountsAgree, GrowingList, blocks_data, IsRestShared, IsExtender, length_back, lacks_last_block, rest_block}
use Rattle.lfs_device.specs.declared.error.Error.{Error}
use Rattle.lfs_device.specs.declared.geometry.Geometry.{Geometry}
use Rattle.lfs_file.specs.declared.block.FullBlocks.{FullBlocks}
use Rattle.lfs_file.specs.declared.extender.ExtenderState.{ExtenderState}
use Rattle.lfs_file.specs.declared.rest.RestLocation.TheVariants.{Closed, Shared, Handed, Held}
use Rattle.lfs_file.specs.Extending.{IsResumedList, IsEmptyList}
use Rattle.lfs_file.specs.FewReads.{ResumesFew}
use Rattle.lfs_file.specs.Known.{WalksFew}
use Rattle.lfs_file.proofs.Sizes.{skip_list_block_count-place, blocks_for-last, place-lt, pointer_count-le, place-le}
use Rattle.lfs_file.proofs.Chains.{pointer_count-pos}
use Rattle.lfs_file.proofs.Geometries.{last_is, chain, sized, shaped}
use Rattle.lfs_file.proofs.Called.{read_on, reported_as}
use Rattle.lfs_file.proofs.Stands.{is_grown}
use Rattle.lfs_file.proofs.Resumed.{front_back, front_chain, keep_full, full_content, full_blocks, before_chain, before_front, open_blocks, open_shared, open_content, rest_long, before_leads}
use Rattle.lfs_file.proofs.Words.{data-written, word_at-written}
use Rattle.lfs_file.proofs.extender.Extender.resume.Goals as goal
use Rattle.lfs_file.specs.declared.rest.RestLocation.{RestLocation}
use Rattle.lfs_file.proofs.Pointed.{none_below_more, none_of_list}
use Rattle.lfs_file.proofs.Rests.{lent}

pub overflow_sub-blocks_for : goal.overflow_sub-blocks_for
overflow_sub-blocks_for g c =
    let last = blocks_for-last c.geometry-geometry.result.block_size c.args.size c.geometry-geometry.result.valid.no_smaller c.requires.list.size_low in
    omega (arith, last.1.0, c.blocks_for.ensures)

pub find_block_at-requires : goal.find_block_at-requires
find_block_at-requires g c =
    let lt = place-lt c.geometry-geometry.result.block_size c.args.size _ _ _ c.geometry-geometry.result.valid.no_smaller c.place-index.ensures (let s = c.requires.some in let w = c.requires.within in omega arith) in
    omega (arith, lt, c.blocks_for.ensures)

-- a list's blocks are all there
never_corrupt : {T : Type 0} (x : Error) → (x ≡ Error.Io) ⊎ (x ≡ Error.Corrupt) → (◌≡◌ {A = Result T Error} (Err x) (Err Error.Corrupt) → ⊥) → (x ≡ Error.Io) ⊎ (x ≡ Error.NoMemory)
never_corrupt x (inl is) other = inl is
never_corrupt x (inr is) other = absurd (other (ap Err is))

pub returns-in_err-block-clause-reports : goal.returns-in_err-block-clause-reports
returns-in_err-block-clause-reports g c =
    let p = err_from_is_err_and c.from_residual-in_err-block.result c.from_residual-in_err-block.ensures.1 in
    let reported = c.in_err-block.ensures.reading in
    rw (p.1, p.2) (record {
      faults = reported_as g.D.BlockDevice reported.faults;
      errors = never_corrupt {T = ℕ} _ reported.errors (λ is. c.in_err-block.ensures.corrupt is
          (chain _ _ _ _ _ c.geometry-geometry.result.valid.no_smaller c.blocks_for.ensures (sized _ _ _ _ _ c.geometry-geometry.ensures c.requires.list)));
    })

pub overflow_add-state : goal.overflow_add-state
overflow_add-state g c =
    let few = place-le _ _ _ _ c.geometry-geometry.result.valid.no_smaller c.place-index.ensures in
    omega arith

pub overflow_add-index : goal.overflow_add-index
overflow_add-index g c =
    let few = place-le _ _ _ _ c.geometry-geometry.result.valid.no_smaller c.place-index.ensures in
    omega arith

-- the block that was found
found_at : (d : Blocks) (geometry made : Geometry) (head size n i block : ℕ) → made ≡ geometry → n ≡ skip_list_block_count made.block_size size → IsSkipList d geometry.block_size head size
    → (AreListBlocks d (n - 1 + 1) head → block ≡ slice_index (blocks_to_head d (n - 1 + 1) head) i) → block ≡ slice_index (blocks_to_head d (skip_list_block_count made.block_size size) head) i
found_at d geometry made head size n i block e is list found =
    found (chain d made.block_size head size n made.valid.no_smaller is (sized d head size geometry made e list))
    ∙ ap (λ k. slice_index (blocks_to_head d k head) i) (last_is made.block_size size n made.valid.no_smaller list.size_low is)

-- the state of a list that was begun without bytes
record IsFresh (made : Geometry) (e : ExtenderState) : Type 0 where
  geometry : e.geometry ≡ made
  long : length e.buffer.items ≡ e.geometry.block_size
  none : OnlyBelowKnown 0 e.front.known
  closed : e.stand ≡ Closed

closed_alone : (d : Blocks) (full head : ℕ) (t : RestLocation) → blocks_to_head d full head ++ rest_block t ≡ [] → lacks_last_block t ≡ false → t ≡ Closed
closed_alone d full head Closed none listed = refl
closed_alone d full head (Shared b) none listed = absurd (omega (arith, ap length none, length-append (blocks_to_head d full head) (b ∷ [])))
closed_alone d full head (Handed b) none listed = absurd (omega (arith, ap length none, length-append (blocks_to_head d full head) (b ∷ [])))
closed_alone d full head Held none listed = absurd (cc)

is_fresh : (made : Geometry) (e f : ExtenderState) (list : GrowingList) → e ≡ f → IsExtender f → growing_view f ≡ list → IsEmptyList made list → IsFresh made e
is_fresh made e f list same has shown empty =
    let own = lent same has in
    let here : IsEmptyList made (growing_view e) = subst (IsEmptyList made) (sym (ap growing_view same ∙ shown)) empty in
    let grown = here.grown [] in
    let none : e.front.count ≡ 0 = omega (arith, ap length grown.blocks, length-append (blocks_to_head [] e.front.count e.front.head) (rest_block e.stand), length_back [] e.front.count e.front.head) in
    record {
      geometry = grown.geometry;
      long = own.one_block;
      none = subst (λ n. OnlyBelowKnown n e.front.known) none own.known;
      closed = closed_alone [] e.front.count e.front.head e.stand grown.blocks here.listed;
    }

-- a front that ends with a block
record IsFull (d : Blocks) (geometry made : Geometry) (head size keep i block : ℕ) : Type 0 where
  chain_is : AreListBlocks d (i + 1) block
  content : blocks_data d (blocks_to_head d (i + 1) block) ++ [] ≡ take keep (list_bytes d geometry.block_size head size)
  blocks_are : blocks_to_head d (i + 1) block ++ [] ≡ take (skip_list_block_count geometry.block_size keep) (blocks_to_head d (skip_list_block_count geometry.block_size size) head)
  kept : blocks_to_head d (i + 1) block ++ [] ≡ take (i + 1) (blocks_to_head d (skip_list_block_count geometry.block_size size) head)
  sum : keep ≡ bytes_before_block made.block_size (i + 1)

is_full : (d : Blocks) (geometry made : Geometry) (head size keep n i off block : ℕ) → made ≡ geometry → n ≡ skip_list_block_count made.block_size size → HasBlockSizes geometry.block_size geometry.block_count d
    → IsSkipList d geometry.block_size head size → 1 ≤ keep → keep ≤ size → IsByteInListBlock made.block_size (keep - 1) i off → (AreListBlocks d (n - 1 + 1) head → block ≡ slice_index (blocks_to_head d (n - 1 + 1) head) i)
    → off + 1 ≡ made.block_size → IsFull d geometry made head size keep i block
is_full d geometry made head size keep n i off block e is shape list some within place found ends =
    let here = found_at d geometry made head size n i block e is list found in
    let large = made.valid.no_smaller in
    let parts = shaped d geometry made e shape in
    let same = sized d head size geometry made e list in
    record {
      chain_is = front_chain d made.block_size geometry.block_count head size keep i off block large parts same some within place here;
      content = full_content d made.block_size geometry.block_count head size keep i off block large parts same some within place here ends ∙ ap (λ (k : Geometry). take keep (list_bytes d k.block_size head size)) e;
      blocks_are = full_blocks d made.block_size geometry.block_count head size keep i off block large parts same some within place here ends
          ∙ ap (λ (k : Geometry). take (skip_list_block_count k.block_size keep) (blocks_to_head d (skip_list_block_count k.block_size size) head)) e;
      kept = append-nil (blocks_to_head d (i + 1) block) ∙ front_back d made.block_size geometry.block_count head size keep i off block large parts same some within place here
          ∙ ap (λ (k : Geometry). take (i + 1) (blocks_to_head d (skip_list_block_count k.block_size size) head)) e;
      sum = keep_full d made.block_size geometry.block_count head size keep i off block large parts same some within place here ends;
    }

-- a front that ends in one
record IsOpen (d : Blocks) (geometry made : Geometry) (head size keep i off block before : ℕ) (rest : List ℕ) : Type 0 where
  chain_is : AreListBlocks d i before
  shared : IsRestShared d i before rest block
  kept : blocks_to_head d i before ++ [] ≡ take i (blocks_to_head d (skip_list_block_count geometry.block_size size) head)
  content : blocks_data d (blocks_to_head d i before) ++ rest ≡ take keep (list_bytes d geometry.block_size head size)
  blocks_are : blocks_to_head d i before ++ block ∷ [] ≡ take (skip_list_block_count geometry.block_size keep) (blocks_to_head d (skip_list_block_count geometry.block_size size) head)
  sum : keep ≡ bytes_before_block made.block_size i + length rest
  leads : (k : ℕ) → k < pointer_count i → word_at (block_bytes d block) (4 * k) ≡ slice_index (blocks_to_head d i before) (i - 2 ^ k)

is_open : (d : Blocks) (geometry made : Geometry) (head size keep n i off block before : ℕ) (rest : List ℕ) → made ≡ geometry → n ≡ skip_list_block_count made.block_size size
    → HasBlockSizes geometry.block_size geometry.block_count d → IsSkipList d geometry.block_size head size → 1 ≤ keep → keep ≤ size → IsByteInListBlock made.block_size (keep - 1) i off
    → (AreListBlocks d (n - 1 + 1) head → block ≡ slice_index (blocks_to_head d (n - 1 + 1) head) i) → off + 1 < made.block_size → (0 < i → before ≡ word_at (block_bytes d block) 0)
    → rest ≡ take (off + 1 - 4 * pointer_count i) (drop (4 * pointer_count i) (block_bytes d block)) → IsOpen d geometry made head size keep i off block before rest
is_open d geometry made head size keep n i off block before rest e is shape list some within place found short named rest_is =
    let here = found_at d geometry made head size n i block e is list found in
    let large = made.valid.no_smaller in
    let parts = shaped d geometry made e shape in
    let same = sized d head size geometry made e list in
    record {
      chain_is = before_chain d made.block_size geometry.block_count head size keep i off block large parts same some within place here before named short;
      shared = open_shared d made.block_size geometry.block_count head size keep i off block large parts same some within place here before named short rest rest_is;
      kept = append-nil (blocks_to_head d i before) ∙ before_front d made.block_size geometry.block_count head size keep i off block large parts same some within place here before named short
          ∙ ap (λ (k : Geometry). take i (blocks_to_head d (skip_list_block_count k.block_size size) head)) e;
      content = open_content d made.block_size geometry.block_count head size keep i off block large parts same some within place here before named short rest rest_is ∙ ap (λ (k : Geometry). take keep (list_bytes d k.block_size head size)) e;
      blocks_are = open_blocks d made.block_size geometry.block_count head size keep i off block large parts same some within place here before named short
          ∙ ap (λ (k : Geometry). take (skip_list_block_count k.block_size keep) (blocks_to_head d (skip_list_block_count k.block_size size) head)) e;
      sum = (let long = rest_long d made.block_size geometry.block_count head size keep i off block large parts same some within place here before named short rest rest_is in omega (arith, long.0, long.2));
      leads = before_leads d made.block_size geometry.block_count head size keep i off block large parts same some within place here before named short;
    }

-- the block does not end the front
short_of : (block_size keep i off : ℕ) → 1024 ≤ block_size → IsByteInListBlock block_size (keep - 1) i off → (off + 1 ≡ block_size → ⊥) → off + 1 < block_size
short_of block_size keep i off large place other =
    let at = place.at in
    let from = place.from in
    let below = place.below in
    let few = pointer_count-le i in
    omega arith

pointer_first : (i : ℕ) → 0 < i → 0 < pointer_count i
pointer_first i some = let many = pointer_count-pos i some in omega arith

-- what a buffer holds of the block then
record IsRead (d : Blocks) (i off block : ℕ) (items : List ℕ) : Type 0 where
  rest : take (off + 1 - 4 * pointer_count i) (drop (4 * pointer_count i) items) ≡ take (off + 1 - 4 * pointer_count i) (drop (4 * pointer_count i) (block_bytes d block))
  words : (k : ℕ) → k < pointer_count i → word_at items (4 * k) ≡ word_at (block_bytes d block) (4 * k)

is_read : (d same : Blocks) (geometry made : Geometry) (keep i off block : ℕ) (old new items : List ℕ) → made ≡ geometry → HasBlockSizes geometry.block_size geometry.block_count d → IsByteInListBlock made.block_size (keep - 1) i off → off + 1 < made.block_size
    → block < geometry.block_count → same ≡ d → items ≡ new → new ≡ take 0 old ++ (take (off + 1) (drop 0 (block_bytes same block)) ++ drop (0 + (off + 1)) old) → IsRead d i off block items
is_read d same geometry made keep i off block old new items e shape place short in_range kept is read =
    let at = place.at in
    let long : length (block_bytes d block) ≡ made.block_size = omega (arith, shape.sizes block in_range, ap (λ (k : Geometry). k.block_size) e) in
    let here = is ∙ read ∙ ap (λ b. take (off + 1) (block_bytes b block) ++ drop (0 + (off + 1)) old) kept in
    record {
      rest = ap (λ (l : List ℕ). take (off + 1 - 4 * pointer_count i) (drop (4 * pointer_count i) l)) here
          ∙ data-written (block_bytes d block) (drop (0 + (off + 1)) old) (off + 1) (4 * pointer_count i) (omega arith) (omega arith);
      words = λ k lt. ap (λ (l : List ℕ). word_at l (4 * k)) here ∙ word_at-written (block_bytes d block) (drop (0 + (off + 1)) old) (off + 1) (4 * k) (omega arith) (omega arith);
    }

-- the buffer that was read into
items_read : (buffer : Vec ℕ Global) (new : List ℕ) → length new ≡ length buffer.items → (with_items buffer new).items ≡ new
items_read buffer new long = with_items_is buffer new (omega (arith, long, buffer.ok.0))

-- how many reads that took
few_read : (geometry made : Geometry) (size keep n i off : ℕ) (old mid new : List CallEvent) → made ≡ geometry → n ≡ skip_list_block_count made.block_size size → 1 ≤ keep → keep ≤ size → IsByteInListBlock made.block_size (keep - 1) i off → WalksFew (n - 1) i old mid
    → read_count new ≤ read_count mid + 1 → ResumesFew geometry.block_size size keep old new
few_read geometry made size keep n i off old mid new e is some within place walk one =
    let large = made.valid.no_smaller in
    let last = last_is made.block_size size n large (omega arith) is in
    let here = skip_list_block_count-place made.block_size keep i off large some place in
    subst (λ (k : Geometry). ResumesFew k.block_size size keep old new) e (record {
      few = λ m le. (let k = walk.few m (omega (arith, le, last)) in omega (arith, k, one));
      near = (let k = walk.near in omega (arith, k, one, last, here));
    })

pub invariant_of-list : goal.invariant_of-list
invariant_of-list g c =
    let e = c.deref_mut-state.result.now in
    let fresh = is_fresh _ _ _ _ c.deref_mut-state.ensures.value c.list.invariant c.list.view_is c.in_ok-list.ensures.started in
    let full = is_full _ _ _ _ _ _ _ _ _ _ c.geometry-geometry.ensures c.blocks_for.ensures (g.met.D.BlockDevice.shape c.args.dev.now) c.requires.list c.requires.some c.requires.within c.place-index.ensures c.in_ok-block.ensures.found c.if-off-block_size.true in
    let few = pointer_count-le (c.place-index.result.0 + 1) in
    let large = c.geometry-geometry.result.valid.no_smaller in
    let many = c.pointer_count_at.ensures in
    let high = c.requires.list.size_high in
    let within = c.requires.within in
    let sum = full.sum in
    record {
      one_block = fresh.long;
      in_step = subst (λ (k : Geometry). CountsAgree k.block_size (c.place-index.result.0 + 1) (4 * c.pointer_count_at.result) c.args.keep) (sym fresh.geometry) (record { low = omega arith; high = omega arith; sum = omega arith; fits = omega arith });
      known = none_below_more (c.place-index.result.0 + 1) e.front.known fresh.none;
    }

pub returns-then-off-block_size-clause-resumed : goal.returns-then-off-block_size-clause-resumed
returns-then-off-block_size-clause-resumed g c =
    let e = c.deref_mut-state.result.now in
    let fresh = is_fresh _ _ _ _ c.deref_mut-state.ensures.value c.list.invariant c.list.view_is c.in_ok-list.ensures.started in
    let old : Blocks = g.D.BlockDevice.blocks c.args.dev.now in
    let made = c.geometry-geometry.ensures in
    let full = is_full _ _ _ _ _ _ _ _ _ _ made c.blocks_for.ensures (g.met.D.BlockDevice.shape c.args.dev.now) c.requires.list c.requires.some c.requires.within c.place-index.ensures c.in_ok-block.ensures.found c.if-off-block_size.true in
    let i : ℕ = c.place-index.result.0 in
    let rest : take (4 * c.pointer_count_at.result - 4 * pointer_count (i + 1)) (drop (4 * pointer_count (i + 1)) e.buffer.items) ≡ [] =
    ap (λ k. take k (drop (4 * pointer_count (i + 1)) e.buffer.items)) (let none : 4 * c.pointer_count_at.result - 4 * pointer_count (i + 1) ≡ 0 = omega (arith, c.pointer_count_at.ensures) in none) in
    let resumed : GrowingList → Type 0 = IsResumedList old (g.D.BlockDevice.geometry c.args.dev.now) c.args.head c.args.size c.args.keep in
    let list : RestLocation → GrowingList = λ t. growing_view (record e { front = record { count = i + 1; head = c.in_ok-block.block; known = e.front.known }; filled = 4 * c.pointer_count_at.result; size = c.args.keep; stand = t }) in
    let all : resumed (list Closed) = record {
      grown =
          is_grown _ old (list Closed) _ _ _ _ _ (g.met.D.BlockDevice.shape c.args.dev.now) (fresh.geometry ∙ made)
          (omega (arith, ap length rest, pointer_count-le (i + 1), e.geometry.valid.no_smaller))
          (record { chain = full.chain_is; known = none_of_list _ e.front.known fresh.none; stand = rest })
          (ap (λ (l : List ℕ). blocks_data old (blocks_to_head old (i + 1) c.in_ok-block.block) ++ l) rest ∙ full.content)
          (omega (arith, ap length rest, full.sum, ap (λ (k : Geometry). bytes_before_block k.block_size (i + 1)) made))
          full.kept full.blocks_are;
      waits = record { listed = refl; pending = λ other apart. apart };
      known = λ some. absurd (omega (arith, ap length rest));
    } in
    subst (λ t. resumed (list t)) (sym fresh.closed) all

pub returns-then-off-block_size-clause-few : goal.returns-then-off-block_size-clause-few
returns-then-off-block_size-clause-few g c = few_read _ _ _ _ _ _ _ _ _ _ c.geometry-geometry.ensures c.blocks_for.ensures c.requires.some c.requires.within c.place-index.ensures c.in_ok-block.ensures.few (omega arith)

pub returns-in_err-read_into_range-clause-device : goal.returns-in_err-read_into_range-clause-device
returns-in_err-read_into_range-clause-device g c = read_on g.D.BlockDevice c.find_block_at.ensures.reading.device c.read_into_range.ensures.reading.device

pub returns-clause-device : goal.returns-clause-device
returns-clause-device g c = read_on g.D.BlockDevice c.find_block_at.ensures.reading.device c.read_into_range.ensures.reading.device

pub returns-clause-few : goal.returns-clause-few
returns-clause-few g c =
    let one = c.read_into_range.ensures.few in
    few_read _ _ _ _ _ _ _ _ _ _ c.geometry-geometry.ensures c.blocks_for.ensures c.requires.some c.requires.within c.place-index.ensures c.in_ok-block.ensures.few (omega (arith, one))

pub read_into_range-requires-clause-in_buffer : goal.read_into_range-requires-clause-in_buffer
read_into_range-requires-clause-in_buffer g c =
    let fresh = is_fresh _ _ _ _ c.deref_mut-state.ensures.value c.list.invariant c.list.view_is c.in_ok-list.ensures.started in
    let size = ap (λ (k : Geometry). k.block_size) fresh.geometry in
    let short = short_of c.geometry-geometry.result.block_size c.args.keep c.place-index.result.0 c.place-index.result.1 c.geometry-geometry.result.valid.no_smaller c.place-index.ensures c.if-off-block_size.false in
    omega (arith, short, size, fresh.long, ap length c.as_mut_slice.ensures.value)

pub begin_before_block-requires-clause-none : goal.begin_before_block-requires-clause-none
begin_before_block-requires-clause-none g c = (is_fresh _ _ _ _ c.deref_mut-state.ensures.value c.list.invariant c.list.view_is c.in_ok-list.ensures.started).none

pub begin_before_block-requires-clause-pointers : goal.begin_before_block-requires-clause-pointers
begin_before_block-requires-clause-pointers g c =
    let e = c.deref_mut-state.result.now in
    let fresh = is_fresh _ _ _ _ c.deref_mut-state.ensures.value c.list.invariant c.list.view_is c.in_ok-list.ensures.started in
    let size = ap (λ (k : Geometry). k.block_size) fresh.geometry in
    let short = short_of c.geometry-geometry.result.block_size c.args.keep c.place-index.result.0 c.place-index.result.1 c.geometry-geometry.result.valid.no_smaller c.place-index.ensures c.if-off-block_size.false in
    let at = c.place-index.ensures.at in
    let same : length c.read_into_range.new.buf ≡ length e.buffer.items = omega (arith, c.read_into_range.auto.buf, ap length c.as_mut_slice.ensures.value) in
    omega (arith, short, at, size, fresh.long, same, ap length (c.as_slice.ensures.value ∙ items_read e.buffer c.read_into_range.new.buf same))

pub invariant_of-list-2 : goal.invariant_of-list-2
invariant_of-list-2 g c =
    let e = c.deref_mut-state.result.now in
    let fresh = is_fresh _ _ _ _ c.deref_mut-state.ensures.value c.list.invariant c.list.view_is c.in_ok-list.ensures.started in
    let short = short_of c.geometry-geometry.result.block_size c.args.keep c.place-index.result.0 c.place-index.result.1 c.geometry-geometry.result.valid.no_smaller c.place-index.ensures c.if-off-block_size.false in
    let same : length c.read_into_range.new.buf ≡ length e.buffer.items = omega (arith, c.read_into_range.auto.buf, ap length c.as_mut_slice.ensures.value) in
    let at = c.place-index.ensures.at in
    let from = c.place-index.ensures.from in
    let some = c.requires.some in
    let within = c.requires.within in
    let high = c.requires.list.size_high in
    let front = c.begin_before_block.ensures.made in
    record {
      one_block = ap length (items_read e.buffer c.read_into_range.new.buf same) ∙ same ∙ fresh.long;
      in_step = subst (λ (f : FullBlocks). CountsAgree e.geometry.block_size f.count (c.place-index.result.1 + 1) c.args.keep) (sym front)
          (subst (λ (k : Geometry). CountsAgree k.block_size c.place-index.result.0 (c.place-index.result.1 + 1) c.args.keep) (sym fresh.geometry) (record { low = omega arith; high = short; sum = omega arith; fits = omega arith }));
      known = subst (λ (f : FullBlocks). OnlyBelowKnown f.count c.begin_before_block.new.self.known) (sym front) c.begin_before_block.ensures.below;
    }

pub returns-clause-resumed : goal.returns-clause-resumed
returns-clause-resumed g c =
    let e = c.deref_mut-state.result.now in
    let fresh = is_fresh _ _ _ _ c.deref_mut-state.ensures.value c.list.invariant c.list.view_is c.in_ok-list.ensures.started in
    let old : Blocks = g.D.BlockDevice.blocks c.args.dev.now in
    let made = c.geometry-geometry.ensures in
    let shape = g.met.D.BlockDevice.shape c.args.dev.now in
    let i : ℕ = c.place-index.result.0 in
    let off : ℕ = c.place-index.result.1 in
    let short = short_of c.geometry-geometry.result.block_size c.args.keep i off c.geometry-geometry.result.valid.no_smaller c.place-index.ensures c.if-off-block_size.false in
    let same : length c.read_into_range.new.buf ≡ length e.buffer.items = omega (arith, c.read_into_range.auto.buf, ap length c.as_mut_slice.ensures.value) in
    let read =
    is_read old _ _ _ c.args.keep i off c.in_ok-block.block _ c.read_into_range.new.buf c.as_slice.result.now made shape c.place-index.ensures short c.in_ok-block.ensures.in_range c.find_block_at.ensures.reading.device.same
    (c.as_slice.ensures.value ∙ items_read e.buffer c.read_into_range.new.buf same) c.in_ok-read_into_range.ensures.bytes in
    let items : List ℕ = (with_items e.buffer c.read_into_range.new.buf).items in
    let p : ℕ = 4 * pointer_count i in
    let o =
    is_open _ _ _ _ _ _ _ _ _ _ c.begin_before_block.new.self.head (take (off + 1 - p) (drop p items)) made c.blocks_for.ensures shape c.requires.list c.requires.some c.requires.within c.place-index.ensures c.in_ok-block.ensures.found short
    (λ more. c.begin_before_block.ensures.head more ∙ read.words 0 (pointer_first _ more))
    (ap (λ (l : List ℕ). take (off + 1 - p) (drop p l)) (sym c.as_slice.ensures.value) ∙ read.rest) in
    let resumed : GrowingList → Type 0 = IsResumedList old (g.D.BlockDevice.geometry c.args.dev.now) c.args.head c.args.size c.args.keep in
    let list : FullBlocks → GrowingList = λ f. growing_view (record e { buffer = with_items e.buffer c.read_into_range.new.buf; front = f; filled = off + 1; size = c.args.keep; stand = Shared c.in_ok-block.block }) in
    let front : FullBlocks = record { count = i; head = c.begin_before_block.new.self.head; known = c.begin_before_block.new.self.known } in
    let all : resumed (list front) = record {
      grown =
          is_grown _ old (list front) _ _ _ _ _ shape (fresh.geometry ∙ made)
          (omega (arith, length-take (off + 1 - p) (drop p items), short, pointer_count-le i, ap (λ (k : Geometry). k.block_size) fresh.geometry, e.geometry.valid.no_smaller))
          (record { chain = o.chain_is; known = c.begin_before_block.ensures.known _ (λ k lt. read.words k lt ∙ o.leads k lt); stand = o.shared }) o.content (omega (arith, o.sum, ap (λ (k : Geometry). bytes_before_block k.block_size i) made)) o.kept o.blocks_are;
      waits = record { listed = refl; pending = λ other apart. apart };
      known = λ some. c.begin_before_block.ensures.pointers;
    } in
    subst (λ f. resumed (list f)) (sym c.begin_before_block.ensures.made) all
