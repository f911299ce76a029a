use Rattle.std.proofs.Common.{ℕ, ◌≡◌, ◌+◌, ◌<◌, ◌++◌, List, [], ◌∷◌, length, set, Option, None, Some, refl, sym, ap, subst, arith, length-append}
use Rattle.std.specs.Option.{IfNone, IfSome, IsSome}
use Rattle.lfs_file.proofs.Common.{BlockStates, IsFree, in_flight_count, used_count, InFlight, TakesFreeBlocks}
use Rattle.lfs_file.proofs.Takings.{takes_none, takes_more, some_free, keeps_by}
use Rattle.lfs_model.proofs.BlockCounts.{in_flight-taken, used-taken}
use Rattle.lfs_file.proofs.taken_blocks.take_blocks.Goals as goal

some_there : (o : Option ℕ) (sets : BlockStates) → used_count sets + in_flight_count sets < length sets → IfNone o ((b : ℕ) → ¬ (IsFree sets b)) → IsSome o
some_there None sets room none = absurd (some_free sets room none)
some_there (Some b) sets room none = refl

pub take_next-init : goal.take_next-init
take_next-init c =
    let e : c.in_ok-blocks.blocks.items ≡ [] = c.in_ok-blocks.ensures.items in
    let none : length c.in_ok-blocks.blocks.items ≡ 0 = ap length e in
    record {
      takes = subst (λ (l : List ℕ). TakesFreeBlocks c.args.map.now c.args.map.now l) (sym e) (takes_none c.args.map.now);
      few = omega arith;
      flying = omega arith;
      used = refl;
    }

pub unwrap-block-requires : goal.unwrap-block-requires
unwrap-block-requires c =
    let inv = c.take_next.invariant in
    let count = inv.takes.count in
    let test = c.take_next-test.true in
    let room = c.requires in
    let flying = inv.flying in
    let used = inv.used in
    let len = c.len.ensures in
    some_there c.take.result c.take_next.map (omega arith) c.take.ensures.none

pub take_next-preserved : goal.take_next-preserved
take_next-preserved c =
    let inv = c.take_next.invariant in
    let b = c.unwrap-block.result in
    let free : IsFree c.take_next.map b = subst (λ (o : Option ℕ). IfSome o (IsFree c.take_next.map)) c.unwrap-block.ensures c.take.ensures.was_free in
    let taken : c.take.new.self ≡ set c.take_next.map b InFlight = subst (λ (o : Option ℕ). IfSome o (λ k. c.take.new.self ≡ set c.take_next.map k InFlight)) c.unwrap-block.ensures c.take.ensures.taken in
    let items : c.push.new.self.items ≡ c.take_next.blocks.items ++ b ∷ [] = c.in_ok-push.ensures.items in
    let len = ap length items in
    let more = length-append c.take_next.blocks.items (b ∷ []) in
    let test = c.take_next-test.true in
    let flying = inv.flying in
    let now = ap in_flight_count taken in
    let count = c.len.ensures in
    let one = in_flight-taken c.take_next.map b free in
    record {
      takes = subst (λ (l : List ℕ). TakesFreeBlocks c.args.map.now c.take.new.self l) (sym items) (takes_more c.args.map.now c.take_next.map c.take.new.self c.take_next.blocks.items b inv.takes free taken);
      few = omega arith;
      flying = omega arith;
      used = let all = inv.used in let e = used-taken c.take_next.map b free in let f = ap used_count taken in omega arith;
    }

pub returns-in_err-push-clause-kept : goal.returns-in_err-push-clause-kept
returns-in_err-push-clause-kept c =
    let inv = c.take_next.invariant in
    let b = c.unwrap-block.result in
    let free : IsFree c.take_next.map b = subst (λ (o : Option ℕ). IfSome o (IsFree c.take_next.map)) c.unwrap-block.ensures c.take.ensures.was_free in
    let taken : c.take.new.self ≡ set c.take_next.map b InFlight = subst (λ (o : Option ℕ). IfSome o (λ k. c.take.new.self ≡ set c.take_next.map k InFlight)) c.unwrap-block.ensures c.take.ensures.taken in
    keeps_by c.args.map.now c.take.new.self (c.take_next.blocks.items ++ b ∷ []) (takes_more c.args.map.now c.take_next.map c.take.new.self c.take_next.blocks.items b inv.takes free taken)
    (let all = inv.used in let e = used-taken c.take_next.map b free in let f = ap used_count taken in omega arith)
