use Rattle.std.proofs.Common.{ℕ, ap, ◌∙◌, arith, Vec, Global}
use Rattle.lfs_model.specs.format.Blocks.{overwritten_at}
use Rattle.lfs_volume.proofs.WrittenBytes.{over_long, over_short}
use Rattle.lfs_volume.proofs.bytes.write_bytes.Goals as goal
use Rattle.lfs_volume.proofs.bytes.write_bytes.Goals.{then-len-end+in_ok-resize_bytes, else-len-end}

pub returns-clause-ok : goal.returns-clause-ok
returns-clause-ok c =
    elim c.if-len-end.branch [
      | then-len-end+in_ok-resize_bytes w ↦
          c.overwrite.ensures ∙ ap (λ (v : Vec ℕ Global). overwritten_at v.items c.args.at c.args.bytes.now) w.contents-is ∙ ap (λ x. overwritten_at x c.args.at c.args.bytes.now) w.in_ok-resize_bytes.ensures.ok
          ∙ over_short c.args.contents.now.items c.args.bytes.now c.args.at (let l = c.len.ensures in let t = w.if-len-end.true in omega arith)
      | else-len-end w ↦
          c.overwrite.ensures ∙ ap (λ (v : Vec ℕ Global). overwritten_at v.items c.args.at c.args.bytes.now) w.contents-is
          ∙ over_long c.args.contents.now.items c.args.bytes.now c.args.at (let l = c.len.ensures in let t = w.if-len-end.false in omega arith)
    ]
