use Rattle.std.proofs.Common.{arith, ap, ◌∙◌, ◌≡◌, ◌<◌, ◌/◌, ◌%◌, ◌^◌, Bool, true, false, cond, length, get_or, set, refl, rules}
use Rattle.std.proofs.lemmas.List.{get_or_read}
use mir.Val.{bool_byte}
use Rattle.lfs_model.specs.layers.BlockSets.{is_used}
use Rattle.lfs_blocks.specs.Marks.{use_view, state_at_bit}
use Rattle.lfs_blocks.specs.BlockMap.{free_marks, state_in_marks}
use Rattle.lfs_blocks.proofs.SetLemmas.{IsChange, IsMap-set, count_fits, length-marks_states, sets_of-set, was_counted}
use Rattle.lfs_blocks.proofs.block_map.BlockMap.set_block_state.Goals as goal
use Rattle.lfs_blocks.proofs.block_map.BlockMap.set_block_state.Goals.{After-from, After-from-2}

byte_of : (b : Bool) → bool_byte b ≡ cond b 1 0
byte_of true = refl
byte_of false = refl

module _ (c : After-from) where
  within : c.args.block < c.self.inside.block_count
  within = omega (arith, ap length c.self.view_is, length-marks_states c.self.inside.marks.items c.self.inside.block_count)

  read : c.index_mut-marks.result.now ≡ get_or c.self.inside.marks.items (c.args.block / 64) free_marks
  read = get_or_read c.self.inside.marks.items (c.args.block / 64) c.index_mut-marks.result.now (omega (arith, within)) c.index_mut-marks.ensures.value free_marks

  change : IsChange c.self.inside.marks.items c.self.inside.block_count c.args.block c.with_state.result (use_view c.args.state)
  change = record {
    within = within;
    covered = c.self.invariant.covered;
    here = c.with_state.ensures.here;
    others = λ other lt ne. c.with_state.ensures.others other lt ne ∙ ap (λ m. state_at_bit m other) read;
  }

  before : c.from.result ≡ cond (is_used (state_in_marks c.self.inside.marks.items c.args.block)) 1 0
  before =
      c.from.ensures ∙ byte_of c.is_used.result
      ∙ ap (λ b. cond b 1 0) (c.is_used.ensures ∙ ap is_used (c.state-was.ensures ∙ ap (λ m. state_at_bit m (c.args.block % 64)) read))

pub index_mut-marks-requires : goal.index_mut-marks-requires
index_mut-marks-requires c =
    omega (arith, ap length c.self.view_is, length-marks_states c.self.inside.marks.items c.self.inside.block_count, c.self.inside.marks.ok.0)

pub overflow_sub-self : goal.overflow_sub-self
overflow_sub-self c =
    was_counted c.self.inside.marks.items c.self.inside.block_count c.args.block c.self.inside.used_count c.from.result (within c) c.self.invariant.counted (before c)

after : (c : After-from-2) → c.from-2.result ≡ cond (is_used (use_view c.args.state)) 1 0
after c = c.from-2.ensures ∙ byte_of c.is_used-2.result ∙ ap (λ b. cond b 1 0) c.is_used-2.ensures

pub overflow_add-self : goal.overflow_add-self
overflow_add-self c =
    let early = (goal.at.overflow_add-self c).After-from in
    let few = count_fits c.self.inside.marks.items c.self.inside.block_count c.args.block c.with_state.result (use_view c.args.state)
    (change early) c.self.inside.used_count c.from.result c.from-2.result c.self.invariant (before early) (after c) in
    let count : c.self.inside.block_count < 2 ^ 32 = search rules in
    search (rules, few, count)

pub invariant_of-self : goal.invariant_of-self
invariant_of-self c =
    let early = (goal.at.invariant_of-self c).After-from in
    IsMap-set c.self.inside.marks.items c.self.inside.block_count c.args.block c.with_state.result (use_view c.args.state)
    (change early) c.self.inside.used_count c.from.result c.from-2.result c.self.invariant (before early) (after (goal.at.invariant_of-self c).After-from-2)

pub returns : goal.returns
returns c =
    sets_of-set c.self.inside.marks.items c.self.inside.block_count c.args.block c.with_state.result (use_view c.args.state) (change (goal.at.returns c).After-from)
    ∙ ap (λ sets. set sets c.args.block (use_view c.args.state)) c.self.view_is
