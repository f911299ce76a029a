use Rattle.std.proofs.Common.{refl, ◌-◌, ◌*◌, length, take, drop, ap, sym, subst, arith}
use Rattle.lfs_file.proofs.Common.{IfOk-weaker, pointer_count}
use Rattle.lfs_file.specs.declared.block.FullBlocks.{FullBlocks}
use Rattle.lfs_file.specs.Extending.{IsEmptyList}
use Rattle.lfs_file.proofs.Stands.{grown_closed}
use Rattle.lfs_file.proofs.extender.Extender.start_empty.Goals as goal

pub returns-clause-started : goal.returns-clause-started
returns-clause-started c =
    let none = ap (λ (f : FullBlocks). f.count) c.new.ensures.made in
    let rest = ap (λ n. take (0 - 4 * pointer_count n) (drop (4 * pointer_count n) c.in_ok-buffer.buffer.items)) none in
    IfOk-weaker c.of_state.result _ (IsEmptyList c.args.geometry)
    (λ list is. subst (IsEmptyList c.args.geometry) (sym is) (record {
      grown = grown_closed _ _ _ _ refl none (omega (arith, c.args.geometry.valid.no_smaller, ap pointer_count none, ap length rest)) rest refl refl refl;
      listed = refl;
      known = λ n k le low lt more. absurd (omega (arith, more, none));
    }))
    c.of_state.ensures.list
