use Rattle.std.proofs.Common.{rules, ◌≡◌, ◌+◌, ◌-◌, ◌≤◌, ℕ, Bool, true, false, Ok, inl, inr, refl, sym, ap, ◌∙◌, subst, arith}
use Rattle.lfs_device.specs.declared.geometry.Geometry.{Geometry}
use Rattle.lfs_pair.proofs.Common.{AreUnprogrammed, blank_answer_count, OnlyAsksBlank}
use Rattle.lfs_model.proofs.Histories.{is_unprogrammed_byte-blank}
use Rattle.lfs_pair.proofs.Changed.{active_below, ends_in_block}
use Rattle.lfs_pair.proofs.commits.is_end_blank.Goals as goal

-- the log ends within the block

pub overflow_cast-end : goal.overflow_cast-end
overflow_cast-end g c =
    let shape = g.met.D.BlockDevice.shape c.args.dev.now in
    let below = active_below _ _ c.args.pair.now c.requires.pair.0 _ c.requires.address c.requires.pair.1 shape.count in
    let size = shape.sizes c.args.pair.now.active below ∙ sym (ap (λ (k : Geometry). k.block_size) c.geometry-geometry.ensures) in
    let ends = ends_in_block _ _ c.args.pair.now c.requires.pair.0 _ c.requires.pair.1 size c.geometry-geometry.result.valid.no_smaller in
    let small = c.geometry-geometry.result.valid.no_larger in
    omega (arith, ends, small)

pub overflow_sub-geometry : goal.overflow_sub-geometry
overflow_sub-geometry g c =
    let shape = g.met.D.BlockDevice.shape c.args.dev.now in
    let below = active_below _ _ c.args.pair.now c.requires.pair.0 _ c.requires.address c.requires.pair.1 shape.count in
    let size = shape.sizes c.args.pair.now.active below ∙ sym (ap (λ (k : Geometry). k.block_size) c.geometry-geometry.ensures) in
    ends_in_block _ _ c.args.pair.now c.requires.pair.0 _ c.requires.pair.1 size c.geometry-geometry.result.valid.no_smaller

-- the question

whole : (end size : ℕ) → end ≤ size → end + (size - end) ≡ size
whole end size within = omega (arith, within)

pub is_unprogrammed-requires : goal.is_unprogrammed-requires
is_unprogrammed-requires g c = record {
  within = record {
    in_device =
        let shape = g.met.D.BlockDevice.shape c.args.dev.now in
        active_below _ _ c.args.pair.now c.requires.pair.0 _ c.requires.address c.requires.pair.1 shape.count;
    in_block =
        let ends = overflow_sub-geometry g c in
        let size = ap (λ (k : Geometry). k.block_size) c.geometry-geometry.ensures in
        omega (arith, ends, size);
  };
}

pub returns-clause-yes : goal.returns-clause-yes
returns-clause-yes g c done =
    let word = c.in_ok-is_blank.ensures.asks.yes done in
    let shape = g.met.D.BlockDevice.shape c.args.dev.now in
    let below = active_below _ _ c.args.pair.now c.requires.pair.0 _ c.requires.address c.requires.pair.1 shape.count in
    let size = ap (λ (k : Geometry). k.block_size) c.geometry-geometry.ensures in
    let ends = ends_in_block _ _ c.args.pair.now c.requires.pair.0 _ c.requires.pair.1 (shape.sizes c.args.pair.now.active below ∙ sym size) c.geometry-geometry.result.valid.no_smaller in
    record {
      known = inr (let here = ap blank_answer_count word in omega (arith, here));
      whole_pages = search rules;
      unprogrammed = subst (AreUnprogrammed (g.D.BlockDevice.history c.is_unprogrammed.new.self) c.args.pair.now.active c.args.pair.now.end)
          (whole c.args.pair.now.end c.geometry-geometry.result.block_size ends ∙ size) (is_unprogrammed_byte-blank word);
    }

pub returns-clause-asks : goal.returns-clause-asks
returns-clause-asks g c = go c.in_ok-is_blank.is_blank refl
  where
    go : (yes : Bool) → c.in_ok-is_blank.is_blank ≡ yes → OnlyAsksBlank g.D.BlockDevice c.args.dev.now c.is_unprogrammed.new.self
    go true is = record {
      same = c.in_ok-is_blank.ensures.same;
      geometry = c.in_ok-is_blank.ensures.geometry;
      asked = inr (record { block = c.args.pair.now.active; off = c.args.pair.now.end; len = c.geometry-geometry.result.block_size - c.args.pair.now.end; failed = false; word = c.in_ok-is_blank.ensures.asks.yes (ap Ok is) });
    }
    go false is = record {
      same = c.in_ok-is_blank.ensures.same;
      geometry = c.in_ok-is_blank.ensures.geometry;
      asked = inl (c.in_ok-is_blank.ensures.asks.no (ap Ok is));
    }
