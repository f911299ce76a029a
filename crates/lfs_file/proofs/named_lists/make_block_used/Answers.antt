use Rattle.std.proofs.Common.{ℕ, ◌≡◌, ◌<◌, Bool, true, false, set, length, [], ◌∷◌}
use Rattle.std.specs.Bool.{OnFalse, OnTrue}
use Rattle.std.specs.Prelude.{IsTrue}
use Rattle.lfs_file.proofs.Common.{BlockStates, IsFree, IsInFlight, Used, SetsState}
use Rattle.lfs_file.proofs.Settlings.{puts_kept, puts_one, used_else}
use Rattle.lfs_file.proofs.named_lists.make_block_used.Goals as goal

pub returns-then-is_in_flight : goal.returns-then-is_in_flight
returns-then-is_in_flight c = puts_one Used c.args.map.now c.settle.new.self c.args.block c.requires c.settle.ensures

-- a free block is marked, and a used one stays
by_mark : (was : Bool) (sets new : BlockStates) (b : ℕ) → b < length sets → (IsInFlight sets b → ⊥) → (IsFree sets b → IsTrue was) → OnTrue was (new ≡ set sets b Used) → OnFalse was (new ≡ sets) → SetsState Used sets new (b ∷ [])
by_mark true sets new b lt flying free marked same = puts_one Used sets new b lt marked
by_mark false sets new b lt flying free marked same = puts_kept Used sets new b (used_else sets b lt flying (λ is. let no = free is in absurd (cc))) same

pub returns : goal.returns
returns c =
    by_mark c.mark.result c.args.map.now c.mark.new.self c.args.block c.requires (λ is. let yes = c.is_in_flight.ensures.1 is in let no = c.if-is_in_flight.false in absurd (cc)) c.mark.ensures.free.1 c.mark.ensures.marked c.mark.ensures.same
