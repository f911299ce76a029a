use Rattle.std.proofs.Common.{rules, sym, ap, ◌∙◌, refl, ℕ}
use Rattle.lfs_model.specs.format.Log.{chain_of}
use Rattle.lfs_model.proofs.Chains.{chain_follows, chain_stops}
use Rattle.lfs_tag.proofs.log.Log.read.Goals as goal

pub loop-commit-init : goal.loop-commit-init
unfolding chain_of
loop-commit-init c = record { start = search rules; same = rw c.from_bits-last.ensures refl }

pub loop-commit-preserved : goal.loop-commit-preserved
loop-commit-preserved c = record {
  start = search rules;
  same = sym (chain_follows c.args.block.now c.loop-commit.start c.loop-commit.end c.loop-commit.last c.in-Some.commit c.in-Some.ensures.value) ∙ c.loop-commit.invariant.same;
}

pub with_known_end-requires-clause-end : goal.with_known_end-requires-clause-end
with_known_end-requires-clause-end c = ap (λ (s : ℕ × ℕ). s.0) (sym (chain_stops c.args.block.now c.loop-commit.start c.loop-commit.end c.loop-commit.last c.in_default.ensures.value) ∙ c.loop-commit.invariant.same)

pub with_known_end-requires-clause-last : goal.with_known_end-requires-clause-last
with_known_end-requires-clause-last c = ap (λ (s : ℕ × ℕ). s.1) (sym (chain_stops c.args.block.now c.loop-commit.start c.loop-commit.end c.loop-commit.last c.in_default.ensures.value) ∙ c.loop-commit.invariant.same)
