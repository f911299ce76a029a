use Rattle.std.proofs.Common.{rules, Global, Vec, refl, ℕ, ◌≡◌, ◌≤◌, ◌+◌, ◌-◌, ◌*◌, ◌++◌, ◌∷◌, ◌<◌, ◌^◌, List, [], length, length-append, subst, take, drop, sym, ap, ◌∙◌, arith, add-one, append_assoc}
use Rattle.lfs_file.proofs.Common.{common_steps, with_items, length-take-le, append-nil, with_items_is, length-overwritten, Blocks, block_bytes, overwritten_at, pointer_count, bytes_before_block, blocks_to_head, FillsFew, further_pointers, CountsAgree, AreKnownBlocks, ArePointedKnown, ListHasBytes, IsExtender, growing_view, GrowingList, growing_bytes, growing_size, blocks_data}
use Rattle.lfs_device.specs.declared.geometry.Geometry.{Geometry}
use Rattle.lfs_file.specs.declared.extender.ExtenderState.{ExtenderState}
use Rattle.lfs_file.specs.declared.block.FullBlocks.{FullBlocks}
use Rattle.lfs_file.specs.declared.known.IndexCache.{IndexCache}
use Rattle.lfs_file.proofs.Chains.{length_back}
use Rattle.lfs_file.proofs.Pointed.{next_pointers}
use Rattle.lfs_file.specs.Extending.{CanFollowBlocks}
use Rattle.lfs_file.proofs.Called.{not_read, only_read}
use Rattle.lfs_file.proofs.Geometries.{shaped}
use Rattle.lfs_file.specs.declared.rest.RestLocation.TheVariants.{Closed, Handed}
use Rattle.lfs_file.proofs.Rests.{after_write, lent, rest_long}
use Rattle.lfs_file.proofs.Stands.{is_grown}
use Rattle.lfs_file.proofs.Sizes.{bytes_before_block-least, pointer_count-le}
use Rattle.lfs_file.proofs.Filling.{rest_more, joined_full}
use Rattle.lfs_file.proofs.extender.Extender.fill_current_block.Goals as goal

-- the rest, with more bytes after it
longer : (e : ExtenderState) (bytes new : List ℕ) (n : ℕ) → IsExtender e → n ≤ length bytes → e.filled + n ≤ e.geometry.block_size → new ≡ overwritten_at e.buffer.items e.filled (take n bytes)
    → take (e.filled + n - 4 * pointer_count e.front.count) (drop (4 * pointer_count e.front.count) new) ≡ (growing_view e).rest ++ take n bytes
longer e bytes new n has le fits is =
    ap (λ (l : List ℕ). take (e.filled + n - 4 * pointer_count e.front.count) (drop (4 * pointer_count e.front.count) l)) is
    ∙ rest_more e.buffer.items (take n bytes) (4 * pointer_count e.front.count) e.filled n has.in_step.low (length-take-le n bytes le) (omega (arith, has.one_block, fits))

pub returns-then-start-n-clause-filled : goal.returns-then-start-n-clause-filled
returns-then-start-n-clause-filled g c = record {
  count = search rules;
  grown =
      let e = c.deref_mut-state.result.now in
      let has = lent c.deref_mut-state.ensures.value c.self.invariant in
      let shown = sym (ap growing_view c.deref_mut-state.ensures.value ∙ c.self.view_is) in
      let n : ℕ = c.min-n.result in
      let bytes : List ℕ = c.args.bytes.now in
      let old : Blocks = g.D.BlockDevice.blocks c.args.dev.now in
      let shape = g.met.D.BlockDevice.shape c.args.dev.now in
      let follows = subst (λ (v : GrowingList). CanFollowBlocks g.D.BlockDevice c.args.dev.now v.full v.head c.args.block) shown c.requires.follows in
      let known = subst (λ (v : GrowingList). AreKnownBlocks (blocks_to_head old v.full v.head) v.known) shown c.requires.known in
      let same = subst (λ (v : GrowingList). g.D.BlockDevice.geometry c.args.dev.now ≡ v.geometry) shown c.requires.geometry in
      let few : n ≤ length bytes = omega (arith, c.min-n.ensures) in
      let rest = longer e bytes c.overwrite_buffer_bytes.new.all.items n has few (omega (arith, c.min-n.ensures, has.in_step.high)) c.overwrite_buffer_bytes.ensures in
      let long = length-take-le n bytes few in
      let all = length-append (growing_view e).rest (take n bytes) in
      let new : GrowingList = growing_view (record e { buffer = c.overwrite_buffer_bytes.new.all; filled = e.filled + n; size = e.size + n; stand = Handed c.args.block }) in
      subst (λ (v : GrowingList). ListHasBytes v.geometry old new (growing_bytes old v ++ take n bytes) (growing_size v + n) (blocks_to_head old v.full v.head ++ c.args.block ∷ []) (blocks_to_head old v.full v.head ++ c.args.block ∷ [])) (sym shown)
      (is_grown e.geometry old new _ _ _ _ _ (shaped old _ e.geometry (sym same) shape) refl
      (omega (arith, ap length rest, all, long, rest_long e has, c.if-start-n.true))
      (record {
        chain = follows.chain;
        known = known;
        stand = record {
          some = omega (arith, ap length rest, all, long, c.min-n.ensures, c.requires.some, has.in_step.high);
          in_range = omega (arith, shape.count, follows.in_device);
          apart = follows.apart;
        };
      })
      (ap (λ (l : List ℕ). blocks_data old (blocks_to_head old e.front.count e.front.head) ++ l) rest ∙ sym (append_assoc (blocks_data old (blocks_to_head old e.front.count e.front.head)) (growing_view e).rest (take n bytes)))
      (omega (arith, ap length rest, all, long))
      refl refl);
}

pub returns-then-start-n-clause-device : goal.returns-then-start-n-clause-device
returns-then-start-n-clause-device g c = only_read g.D.BlockDevice c.args.block (not_read g.D.BlockDevice c.args.dev.now)

pub returns-then-start-n-clause-waits : goal.returns-then-start-n-clause-waits
returns-then-start-n-clause-waits g c = record { listed = refl; pending = λ other apart. apart }

pub returns-clause-waits : goal.returns-clause-waits
returns-clause-waits g c = record { listed = refl; pending = λ other apart k x l. absurd (omega arith) }

pub write_block-requires : goal.write_block-requires
write_block-requires g c = record {
  follows = search rules;
  known = subst (λ (v : GrowingList). AreKnownBlocks (blocks_to_head (g.D.BlockDevice.blocks c.args.dev.now) v.full v.head) v.known) (sym (ap growing_view c.deref_mut-state.ensures.value ∙ c.self.view_is)) c.requires.known;
  size = grind (arith, common_steps);
  large = grind (arith, common_steps);
  pages = search rules;
  room = search rules;
  pointers = search rules;
}

-- the front with the block
abbrev front_with : ℕ → ℕ → IndexCache → FullBlocks
front_with count head known = record { count = count; head = head; known = known }

added : (old front new : FullBlocks) (block : ℕ) → front.count ≡ old.count → new ≡ front_with (front.count + 1) block new.known → new ≡ front_with (old.count + 1) block new.known
added old front new block same is = is ∙ ap (λ n. front_with (n + 1) block new.known) same

pub add-requires-clause-few : goal.add-requires-clause-few
add-requires-clause-few g c =
    let e = c.deref_mut-state.result.now in
    let has = lent c.deref_mut-state.ensures.value c.self.invariant in
    let few = bytes_before_block-least e.geometry.block_size e.front.count e.geometry.valid.no_smaller in
    let sum = has.in_step.sum in
    let fits = has.in_step.fits in
    omega (arith, c.write_block.ensures.front.count)

pub returns-clause-calls : goal.returns-clause-calls
returns-clause-calls g c = record {
  few =
      let e = c.deref_mut-state.result.now in
      let read = c.in_ok-write_block.ensures.calls.few in
      let same = c.write_block.ensures.front.count in
      let count = ap (λ (f : FullBlocks). f.count) (added e.front c.write_block.new.front c.add.new.self c.args.block same c.add.ensures.added) in
      let state : ExtenderState = record e { buffer = with_items c.overwrite_buffer_bytes.new.all c.write_block.new.buf; front = c.add.new.self; filled = 4 * c.pointer_count_at.result; size = e.size + c.min-n.result; stand = Closed } in
      subst (λ (v : GrowingList). FillsFew v (growing_view state) (g.D.BlockDevice.history c.args.dev.now) (g.D.BlockDevice.history c.write_block.new.dev)) (ap growing_view c.deref_mut-state.ensures.value ∙ c.self.view_is)
      (record {
        few = omega (arith, read.few, ap further_pointers count, ap further_pointers (add-one e.front.count));
        none = λ all.
            let none = read.none (next_pointers e.front.count e.front.known (omega arith) all) in
            (none.1, c.add.ensures.later (subst (ArePointedKnown c.write_block.new.front.count) (sym none.0) (subst (λ n. ArePointedKnown n e.front.known) (sym same) all)));
        longer = omega (arith, count);
        unfilled = λ same. absurd (omega (arith, same, count));
        first = λ known more. (let none = read.none known in omega (arith, none.1, ap further_pointers count));
      });
  writes =
      let one = c.in_ok-write_block.ensures.calls.writes in
      let full = ap (λ (v : GrowingList). v.full) (ap growing_view c.deref_mut-state.ensures.value ∙ c.self.view_is) in
      let count = ap (λ (f : FullBlocks). f.count) (added c.deref_mut-state.result.now.front c.write_block.new.front c.add.new.self c.args.block c.write_block.ensures.front.count c.add.ensures.added) in
      record { erased = omega (arith, one.erased, full, count); programmed = omega (arith, one.programmed, full, count) };
}

pub overflow_add-state-2 : goal.overflow_add-state-2
overflow_add-state-2 g c =
    let e = c.deref_mut-state.result.now in
    let has = lent c.deref_mut-state.ensures.value c.self.invariant in
    let room = subst (λ (v : GrowingList). growing_size v + length c.args.bytes.now < 2 ^ 31) (sym (ap growing_view c.deref_mut-state.ensures.value ∙ c.self.view_is)) c.requires.room in
    let few = bytes_before_block-least e.geometry.block_size e.front.count e.geometry.valid.no_smaller in
    let sum = has.in_step.sum in
    let fits = has.in_step.fits in
    omega arith

pub overflow_mul-state : goal.overflow_mul-state
overflow_mul-state g c = let few = pointer_count-le c.add.new.self.count in omega (arith, c.pointer_count_at.ensures)

-- the buffer is one block still
one_block : (e : ExtenderState) (all : Vec ℕ Global) (buf bytes : List ℕ) → IsExtender e → e.filled + length bytes ≤ e.geometry.block_size → all.items ≡ overwritten_at e.buffer.items e.filled bytes → length buf ≡ length all.items
    → length (with_items all buf).items ≡ e.geometry.block_size
one_block e all buf bytes has within is long =
    ap length (with_items_is all buf (omega (arith, long, all.ok.0))) ∙ omega (arith, long, ap length is, length-overwritten e.buffer.items e.filled bytes (omega (arith, has.one_block)), has.one_block)

pub invariant_of-self-in_err-write_block : goal.invariant_of-self-in_err-write_block
invariant_of-self-in_err-write_block g c =
    let e = c.deref_mut-state.result.now in
    let has = lent c.deref_mut-state.ensures.value c.self.invariant in
    let long = length-take-le c.min-n.result c.args.bytes.now (omega (arith, c.min-n.ensures)) in
    let high = has.in_step.high in
    after_write e _ c.write_block.new.front has
    (one_block e c.overwrite_buffer_bytes.new.all c.write_block.new.buf (take c.min-n.result c.args.bytes.now) has (omega (arith, long, c.min-n.ensures, high)) c.overwrite_buffer_bytes.ensures (omega (arith, c.write_block.auto.buf, ap length c.as_mut_slice-buffer.ensures.value)))
    c.write_block.ensures.front.count c.write_block.ensures.front.below

pub invariant_of-self-2 : goal.invariant_of-self-2
invariant_of-self-2 g c =
    let e = c.deref_mut-state.result.now in
    let has = lent c.deref_mut-state.ensures.value c.self.invariant in
    let size : ℕ = e.geometry.block_size in
    let large = e.geometry.valid.no_smaller in
    let few = pointer_count-le (e.front.count + 1) in
    let low = has.in_step.low in
    let high = has.in_step.high in
    let sum = has.in_step.sum in
    let next = ap (bytes_before_block size) (add-one e.front.count) in
    let here = pointer_count-le e.front.count in
    let rest = rest_long e has in
    let room = subst (λ (v : GrowingList). growing_size v + length c.args.bytes.now < 2 ^ 31) (sym (ap growing_view c.deref_mut-state.ensures.value ∙ c.self.view_is)) c.requires.room in
    let taken = c.min-n.ensures in
    let front = added e.front c.write_block.new.front c.add.new.self c.args.block c.write_block.ensures.front.count c.add.ensures.added in
    let many = c.pointer_count_at.ensures ∙ ap (λ (f : FullBlocks). pointer_count f.count) front in
    let long = length-take-le c.min-n.result c.args.bytes.now (omega (arith, taken)) in
    record {
      one_block = one_block e c.overwrite_buffer_bytes.new.all c.write_block.new.buf (take c.min-n.result c.args.bytes.now) has (omega (arith, long, taken, high)) c.overwrite_buffer_bytes.ensures (omega (arith, c.write_block.auto.buf, ap length c.as_mut_slice-buffer.ensures.value));
      in_step = subst (λ (f : FullBlocks). CountsAgree size f.count (4 * c.pointer_count_at.result) (e.size + c.min-n.result)) (sym front) (record { low = omega arith; high = omega arith; sum = omega arith; fits = omega arith });
      known = c.add.ensures.below;
    }

pub returns-clause-filled : goal.returns-clause-filled
returns-clause-filled g c = record {
  count = search rules;
  grown =
      let e = c.deref_mut-state.result.now in
      let has = lent c.deref_mut-state.ensures.value c.self.invariant in
      let shown = sym (ap growing_view c.deref_mut-state.ensures.value ∙ c.self.view_is) in
      let p : ℕ = 4 * pointer_count e.front.count in
      let n : ℕ = c.min-n.result in
      let size : ℕ = e.geometry.block_size in
      let old : Blocks = g.D.BlockDevice.blocks c.args.dev.now in
      let new : Blocks = g.D.BlockDevice.blocks c.write_block.new.dev in
      let shape = g.met.D.BlockDevice.shape c.args.dev.now in
      let follows = subst (λ (v : GrowingList). CanFollowBlocks g.D.BlockDevice c.args.dev.now v.full v.head c.args.block) shown c.requires.follows in
      let same = subst (λ (v : GrowingList). g.D.BlockDevice.geometry c.args.dev.now ≡ v.geometry) shown c.requires.geometry in
      let geometry = ap (λ (k : Geometry). k.block_size) same in
      let sized : length (block_bytes new c.args.block) ≡ size = omega (arith, c.write_block.ensures.device.others.size, shape.sizes c.args.block follows.in_device, geometry) in
      let whole : e.filled + n ≡ size = (let taken = c.min-n.ensures in let high = has.in_step.high in omega arith) in
      let bytes : take (size - p) (drop p (block_bytes new c.args.block)) ≡ take (e.filled - p) (drop p e.buffer.items) ++ take n c.args.bytes.now =
      c.in_ok-write_block.ensures.block.held
      ∙ ap (λ (l : List ℕ). take (size - p) (drop p l)) (c.as_mut_slice-buffer.ensures.value ∙ c.overwrite_buffer_bytes.ensures)
      ∙ ap (λ k. take (k - p) (drop p (overwritten_at e.buffer.items e.filled (take n c.args.bytes.now)))) (sym whole)
      ∙ rest_more e.buffer.items (take n c.args.bytes.now) p e.filled n has.in_step.low (length-take-le n c.args.bytes.now (omega (arith, c.min-n.ensures))) (omega (arith, has.one_block)) in
      let known : AreKnownBlocks (blocks_to_head old e.front.count e.front.head ++ c.args.block ∷ []) c.add.new.self.known =
      c.add.ensures.known (blocks_to_head old e.front.count e.front.head) (length_back old e.front.count e.front.head ∙ sym c.write_block.ensures.front.count) c.write_block.ensures.front.known in
      let added_front = added e.front c.write_block.new.front c.add.new.self c.args.block c.write_block.ensures.front.count c.add.ensures.added in
      let many = c.pointer_count_at.ensures ∙ ap (λ (f : FullBlocks). pointer_count f.count) added_front in
      let state : FullBlocks → ExtenderState = λ f. record e { buffer = with_items c.overwrite_buffer_bytes.new.all c.write_block.new.buf; front = f; filled = 4 * c.pointer_count_at.result; size = e.size + n; stand = Closed } in
      let later : ExtenderState = state (front_with (e.front.count + 1) c.args.block c.add.new.self.known) in
      let rest : (growing_view later).rest ≡ [] =
      ap (λ k. take k (drop (4 * pointer_count (e.front.count + 1)) (with_items c.overwrite_buffer_bytes.new.all c.write_block.new.buf).items)) (let none : 4 * c.pointer_count_at.result - 4 * pointer_count (e.front.count + 1) ≡ 0 = omega (arith, many) in none) in
      let appended = c.in_ok-write_block.ensures.block.appended in
      let device = c.write_block.ensures.device in
      let long = length-take-le n c.args.bytes.now (omega (arith, c.min-n.ensures)) in
      let old_rest = rest_long e has in
      subst (λ (f : FullBlocks). ListHasBytes c.args.self.now.geometry new (growing_view (state f)) (growing_bytes old c.args.self.now ++ take n c.args.bytes.now) (growing_size c.args.self.now + n) (blocks_to_head old c.args.self.now.full c.args.self.now.head ++ c.args.block ∷ []) (blocks_to_head old c.args.self.now.full c.args.self.now.head ++ c.args.block ∷ [])) (sym added_front)
      (subst (λ (v : GrowingList). ListHasBytes v.geometry new (growing_view later) (growing_bytes old v ++ take n c.args.bytes.now) (growing_size v + n) (blocks_to_head old v.full v.head ++ c.args.block ∷ []) (blocks_to_head old v.full v.head ++ c.args.block ∷ [])) (sym shown)
      (is_grown e.geometry new (growing_view later) _ _ _ _ _ (shaped new _ e.geometry (sym (device.geometry ∙ same)) (g.met.D.BlockDevice.shape c.write_block.new.dev)) refl
      (omega (arith, ap length rest, pointer_count-le (e.front.count + 1), e.geometry.valid.no_smaller))
      (record { chain = appended.chain; known = subst (λ (l : List ℕ). AreKnownBlocks l c.add.new.self.known) (sym appended.back) known; stand = rest })
      (ap (λ (l : List ℕ). blocks_data new (blocks_to_head new (e.front.count + 1) c.args.block) ++ l) rest
      ∙ append-nil (blocks_data new (blocks_to_head new (e.front.count + 1) c.args.block))
      ∙ joined_full old new e.front.count e.front.head c.args.block size _ appended.back device.others follows.apart sized bytes
      ∙ sym (append_assoc (blocks_data old (blocks_to_head old e.front.count e.front.head)) (take (e.filled - p) (drop p e.buffer.items)) (take n c.args.bytes.now)))
      (omega (arith, ap length rest, ap (bytes_before_block size) (add-one e.front.count), whole, old_rest, has.in_step.low, pointer_count-le e.front.count, e.geometry.valid.no_smaller))
      (append-nil (blocks_to_head new (e.front.count + 1) c.args.block) ∙ appended.back)
      (append-nil (blocks_to_head new (e.front.count + 1) c.args.block) ∙ appended.back)));
}
