use Rattle.std.proofs.Common.{arith, subst, sym, true}
use Rattle.lfs_tree.proofs.Scanned.{IsScanning, scan_begun, scan_on, scanned}
use Rattle.lfs_tree.proofs.orphans.unreached_pair_indices.Goals as goal

pub loop-index-init : goal.loop-index-init
loop-index-init g c = record {
  end = c.len-index-end.ensures;
  low = omega arith;
  within = let e = c.len-index-end.ensures in let f = c.requires.few in omega (arith, e, f);
  scanning = subst (λ n. IsScanning c.args.thread.now.kept.pairs c.args.root c.args.root n true) (sym c.new-numbers.ensures.items) (scan_begun c.args.thread.now.kept.pairs c.args.root true);
}

pub loop-index-preserved : goal.loop-index-preserved
loop-index-preserved g c =
    let inv = c.loop-index.invariant in
    let n = inv.end in
    let l = inv.low in
    record {
      end = inv.end;
      low = omega (arith, l);
      within = omega (arith, c.loop-index-test.true);
      scanning = scan_on c.args.thread.now.kept.pairs c.args.marks.now c.requires.marks c.args.root c.loop-index.index l (omega (arith, n, c.loop-index-test.true)) c.loop-index.numbers.items c.loop-index.is_reached inv.scanning
          c.push_if_unreached.new.numbers.items c.is_pair_reached-is_reached.result c.is_pair_reached-is_reached.ensures c.in_ok-push_if_unreached.ensures;
    }

pub returns : goal.returns
returns g c =
    let inv = c.loop-index.invariant in
    let n = inv.end in
    scanned c.args.thread.now.kept.pairs c.args.root c.loop-index.index c.loop-index.numbers.items c.loop-index.is_reached c.requires.root (let w = inv.within in omega (arith, n, w, c.loop-index-test.false)) inv.scanning
