use Rattle.std.specs.Prelude.{All}
use Rattle.std.proofs.Common.{rules, ap, true, false, ◌≢◌, ℕ, ◌≡◌, ◌≤◌, ◌+◌, ◌++◌, ◌∙◌, List, [], ◌∷◌, length, take, sym, subst, arith}
use Rattle.lfs_file.proofs.Common.{CallEvent, Blocks, HasBlockSizes, SameExcept, blocks_to_head, AreListBlocks, block_data, growing_view, GrowingList, growing_bytes, growing_blocks, growing_size, unwritten_block, rest_block, unwritten_rest_block, lacks_last_block, DiskHasList, WritesEachOnce, ListHoldsBytes}
use Rattle.lfs_device.specs.declared.geometry.Geometry.{Geometry}
use Rattle.lfs_file.specs.declared.extender.ExtenderState.{ExtenderState}
use Rattle.lfs_file.specs.declared.rest.RestLocation.TheVariants.{Closed, Shared, Handed, Held}
use Rattle.lfs_file.proofs.Geometries.{shaped}
use Rattle.lfs_file.proofs.Rests.{IsCounted, counted, lent}
use Rattle.lfs_file.specs.declared.rest.RestLocation.{RestLocation}
use Rattle.lfs_file.proofs.Called.{changes_none, changes_one}
use Rattle.lfs_file.proofs.Filling.{closed_end, shared_end, handed_end}
use Rattle.lfs_file.proofs.extender.Extender.finish.Goals as goal

module _ (d : Blocks) (v : GrowingList) (size : ℕ) (is_counted : IsCounted v size) (geometry : Geometry) (same : geometry ≡ v.geometry) (shape : HasBlockSizes geometry.block_size geometry.block_count d) (held : DiskHasList d v) (some : 1 ≤ growing_size v) where
  divided : HasBlockSizes v.geometry.block_size geometry.block_count d
  divided = shaped d geometry v.geometry (sym same) shape

  any : 1 ≤ size
  any = omega (arith, some, is_counted.sum)

  in_closed : v.stand ≡ Closed → ListHoldsBytes d v.geometry.block_size v.head size (growing_bytes d v) (growing_blocks d v)
  in_closed is =
      subst (λ t. ListHoldsBytes d v.geometry.block_size v.head size (growing_bytes d v) (blocks_to_head d v.full v.head ++ rest_block t)) (sym is)
      (closed_end d v.geometry.block_size geometry.block_count v.full v.head size v.rest v.geometry.valid.no_smaller divided held.chain (rw is at held.stand) any is_counted.fits is_counted.sum)

  in_shared : (b : ℕ) → v.stand ≡ Shared b → ListHoldsBytes d v.geometry.block_size b size (growing_bytes d v) (growing_blocks d v)
  in_shared b is =
      subst (λ t. ListHoldsBytes d v.geometry.block_size b size (growing_bytes d v) (blocks_to_head d v.full v.head ++ rest_block t)) (sym is)
      (shared_end d v.geometry.block_size geometry.block_count v.full v.head b size v.rest v.geometry.valid.no_smaller divided held.chain (rw is at held.stand) (let r = is_counted.short in omega arith) is_counted.fits is_counted.sum)

  in_handed : (new : Blocks) (b : ℕ) → v.stand ≡ Handed b → AreListBlocks new (v.full + 1) b → blocks_to_head new (v.full + 1) b ≡ blocks_to_head d v.full v.head ++ b ∷ [] → SameExcept b d new
      → take (length v.rest) (block_data new (v.full, b)) ≡ v.rest → ListHoldsBytes new v.geometry.block_size b size (growing_bytes d v) (growing_blocks d v)
  in_handed new b is more back but begins =
      subst (λ t. ListHoldsBytes new v.geometry.block_size b size (growing_bytes d v) (blocks_to_head d v.full v.head ++ rest_block t)) (sym is)
      (handed_end d new v.geometry.block_size geometry.block_count v.full v.head b size v.rest v.geometry.valid.no_smaller divided held.chain (rw is at held.stand) more back but begins
      (let r = is_counted.short in omega arith) is_counted.fits is_counted.sum)

-- where the rest stands
stood : (e : ExtenderState) (v : GrowingList) (t : RestLocation) → growing_view e ≡ v → e.stand ≡ t → v.stand ≡ t
stood e v t shown is = sym (ap (λ (g : GrowingList). g.stand) shown) ∙ is

pub returns-in-Closed-clause-finished : goal.returns-in-Closed-clause-finished
returns-in-Closed-clause-finished g c =
    subst (λ (v : GrowingList). ListHoldsBytes (g.D.BlockDevice.blocks c.args.dev.now) c.args.self.geometry.block_size v.head c.deref-state.result.now.size (growing_bytes (g.D.BlockDevice.blocks c.args.dev.now) c.args.self) (growing_blocks (g.D.BlockDevice.blocks c.args.dev.now) c.args.self)) (sym (ap growing_view c.deref-state.ensures ∙ c.self.view_is))
    (in_closed (g.D.BlockDevice.blocks c.args.dev.now) c.args.self c.deref-state.result.now.size (counted c.deref-state.result.now c.args.self (lent c.deref-state.ensures c.self.invariant) (ap growing_view c.deref-state.ensures ∙ c.self.view_is)) _ c.requires.stands.geometry (g.met.D.BlockDevice.shape c.args.dev.now) c.requires.stands.growing c.requires.some
    (stood c.deref-state.result.now c.args.self Closed (ap growing_view c.deref-state.ensures ∙ c.self.view_is) c.in-Closed.is))

pub returns-in-Shared-clause-finished : goal.returns-in-Shared-clause-finished
returns-in-Shared-clause-finished g c =
    in_shared (g.D.BlockDevice.blocks c.args.dev.now) c.args.self c.deref-state.result.now.size (counted c.deref-state.result.now c.args.self (lent c.deref-state.ensures c.self.invariant) (ap growing_view c.deref-state.ensures ∙ c.self.view_is)) _ c.requires.stands.geometry (g.met.D.BlockDevice.shape c.args.dev.now) c.requires.stands.growing c.requires.some
    c.in-Shared.block (stood c.deref-state.result.now c.args.self (Shared c.in-Shared.block) (ap growing_view c.deref-state.ensures ∙ c.self.view_is) c.in-Shared.is)

pub returns-in-Closed-clause-size : goal.returns-in-Closed-clause-size
returns-in-Closed-clause-size g c = (counted c.deref-state.result.now c.args.self (lent c.deref-state.ensures c.self.invariant) (ap growing_view c.deref-state.ensures ∙ c.self.view_is)).sum

pub returns-in-Shared-clause-size : goal.returns-in-Shared-clause-size
returns-in-Shared-clause-size g c = (counted c.deref-state.result.now c.args.self (lent c.deref-state.ensures c.self.invariant) (ap growing_view c.deref-state.ensures ∙ c.self.view_is)).sum

pub returns-in-Held-clause-size : goal.returns-in-Held-clause-size
returns-in-Held-clause-size g c = (counted c.deref-state.result.now c.args.self (lent c.deref-state.ensures c.self.invariant) (ap growing_view c.deref-state.ensures ∙ c.self.view_is)).sum

pub returns-clause-size : goal.returns-clause-size
returns-clause-size g c = (counted c.deref-state.result.now c.args.self (lent c.deref-state.ensures c.self.invariant) (ap growing_view c.deref-state.ensures ∙ c.self.view_is)).sum

-- contents that are in memory alone aren't ended
never_held : (t : RestLocation) → lacks_last_block t ≡ false → t ≡ Held → ⊥
never_held t listed is = let other : true ≡ false = subst (λ k. lacks_last_block k ≡ false) is listed in absurd (cc)

pub returns-in-Held-clause-finished : goal.returns-in-Held-clause-finished
returns-in-Held-clause-finished g c = absurd (never_held c.args.self.stand c.requires.listed (stood c.deref-state.result.now c.args.self Held (ap growing_view c.deref-state.ensures ∙ c.self.view_is) c.in-Held.is))

-- where no block waits, none is written
none_written : (v : GrowingList) (old : List CallEvent) → unwritten_block v ≡ [] → WritesEachOnce 0 (length (unwritten_block v)) old old
none_written v old none = record { erased = omega (arith, ap length none); programmed = omega (arith, ap length none) }

pub returns-in-Closed-clause-calls : goal.returns-in-Closed-clause-calls
returns-in-Closed-clause-calls g c = record {
  no_call = search rules;
  writes = none_written c.args.self _ (ap unwritten_rest_block (stood c.deref-state.result.now c.args.self Closed (ap growing_view c.deref-state.ensures ∙ c.self.view_is) c.in-Closed.is));
  few = search rules;
}

pub returns-in-Shared-clause-calls : goal.returns-in-Shared-clause-calls
returns-in-Shared-clause-calls g c = record {
  no_call = search rules;
  writes = none_written c.args.self _ (ap unwritten_rest_block (stood c.deref-state.result.now c.args.self (Shared c.in-Shared.block) (ap growing_view c.deref-state.ensures ∙ c.self.view_is) c.in-Shared.is));
  few = search rules;
}

pub returns-in-Held-clause-calls : goal.returns-in-Held-clause-calls
returns-in-Held-clause-calls g c = record {
  no_call = search rules;
  writes = none_written c.args.self _ (ap unwritten_rest_block (stood c.deref-state.result.now c.args.self Held (ap growing_view c.deref-state.ensures ∙ c.self.view_is) c.in-Held.is));
  few = search rules;
}

pub returns-clause-calls : goal.returns-clause-calls
returns-clause-calls g c = record {
  no_call = search rules;
  writes =
      let one = c.in_ok-write_last_block-in-Handed.ensures.writes in
      let count = ap (λ t. length (unwritten_rest_block t)) (stood c.deref-state.result.now c.args.self (Handed c.in-Handed.block) (ap growing_view c.deref-state.ensures ∙ c.self.view_is) c.in-Handed.is) in
      record { erased = omega (arith, one.erased, count); programmed = omega (arith, one.programmed, count) };
  few = search rules;
}

pub returns-in-Closed-clause-device : goal.returns-in-Closed-clause-device
returns-in-Closed-clause-device g c = changes_none g.D.BlockDevice _ c.args.dev.now

pub returns-in-Shared-clause-device : goal.returns-in-Shared-clause-device
returns-in-Shared-clause-device g c = changes_none g.D.BlockDevice _ c.args.dev.now

pub returns-in-Held-clause-device : goal.returns-in-Held-clause-device
returns-in-Held-clause-device g c = changes_none g.D.BlockDevice _ c.args.dev.now

-- the block that waits is written
written : (t : RestLocation) (b : ℕ) → t ≡ Handed b → (other : ℕ) → All (λ c. c ≢ other) (unwritten_rest_block t) → b ≢ other
written t b is other apart = (subst (λ k. All (λ c. c ≢ other) (unwritten_rest_block k)) is apart) 0 0 (omega arith)

pub returns-in_err-write_last_block-in-Handed-clause-device : goal.returns-in_err-write_last_block-in-Handed-clause-device
returns-in_err-write_last_block-in-Handed-clause-device g c =
    changes_one g.D.BlockDevice (written c.args.self.stand c.in-Handed.block (stood c.deref-state.result.now c.args.self (Handed c.in-Handed.block) (ap growing_view c.deref-state.ensures ∙ c.self.view_is) c.in-Handed.is)) (changes_none g.D.BlockDevice _ c.args.dev.now) c.write_last_block.ensures.device

pub returns-clause-device : goal.returns-clause-device
returns-clause-device g c =
    changes_one g.D.BlockDevice (written c.args.self.stand c.in-Handed.block (stood c.deref-state.result.now c.args.self (Handed c.in-Handed.block) (ap growing_view c.deref-state.ensures ∙ c.self.view_is) c.in-Handed.is)) (changes_none g.D.BlockDevice _ c.args.dev.now) c.write_last_block.ensures.device

pub returns-clause-finished : goal.returns-clause-finished
returns-clause-finished g c =
    let wrote = c.in_ok-write_last_block-in-Handed.ensures in
    in_handed (g.D.BlockDevice.blocks c.args.dev.now) c.args.self c.deref-state.result.now.size (counted c.deref-state.result.now c.args.self (lent c.deref-state.ensures c.self.invariant) (ap growing_view c.deref-state.ensures ∙ c.self.view_is)) _ c.requires.stands.geometry (g.met.D.BlockDevice.shape c.args.dev.now) c.requires.stands.growing c.requires.some _
    c.in-Handed.block (stood c.deref-state.result.now c.args.self (Handed c.in-Handed.block) (ap growing_view c.deref-state.ensures ∙ c.self.view_is) c.in-Handed.is) wrote.block.appended.chain wrote.block.appended.back wrote.device.others wrote.block.held
