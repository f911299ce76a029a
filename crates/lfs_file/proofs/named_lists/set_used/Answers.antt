use Rattle.std.proofs.Common.{Bool, [], ◌∷◌, sym, subst}
use Rattle.lfs_file.proofs.Common.{Free, SetsState, used_or_free}
use Rattle.lfs_file.proofs.Settlings.{puts_one}
use Rattle.lfs_file.proofs.named_lists.set_used.Goals as goal

pub returns-then-used : goal.returns-then-used
returns-then-used c = subst (λ (k : Bool). SetsState (used_or_free k) c.args.map.now c.make_block_used.new.map (c.args.block ∷ [])) (sym c.if-used.true) c.make_block_used.ensures

pub returns : goal.returns
returns c =
    subst (λ (k : Bool). SetsState (used_or_free k) c.args.map.now c.release.new.self (c.args.block ∷ [])) (sym c.if-used.false)
    (puts_one Free c.args.map.now c.release.new.self c.args.block c.requires c.release.ensures)
