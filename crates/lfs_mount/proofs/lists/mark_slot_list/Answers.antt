use Rattle.std.proofs.Common.{rules, inr, refl, subst, ◌≡◌, Some, None}
use Rattle.lfs_mount.proofs.Common.{disk_of_device, MarksFreeBlocksUsed, list_blocks_backwards}
use Rattle.lfs_mount.proofs.Markings.{all_free, all_keep, some_taken}
use Rattle.lfs_mount.proofs.lists.mark_slot_list.Goals as goal

pub returns-in-Some-clause-broken : goal.returns-in-Some-clause-broken
returns-in-Some-clause-broken g c = λ v is.
    let flags = all_keep _ (λ p. p.1.ghost_name) (λ p b q r. search rules) _ _ _ c.in_default.ensures.visited in
    let e : c.walk-walked.new.visit.1.now ≡ Some c.in-Some.block = search (rules, flags, c.in-Some.is) in
    inr (c.in-Some.block, (cc, (c.in_default.ensures.listed.list, some_taken _ (λ p. p.0.now) (λ p. p.1.now) (λ p b q r. search rules) _ _ _ c.in-Some.block c.in_default.ensures.visited refl e)))

pub returns-in-None-clause-marked : goal.returns-in-None-clause-marked
returns-in-None-clause-marked g c =
    let names = all_keep _ (λ p. p.0.ghost_name) (λ p b q r. search rules) _ _ _ c.in_default.ensures.visited in
    let flags = all_keep _ (λ p. p.1.ghost_name) (λ p b q r. search rules) _ _ _ c.in_default.ensures.visited in
    let e : c.walk-walked.new.visit.1.now ≡ None = search (rules, flags, c.in-None.is) in
    record {
      list = c.in_default.ensures.listed.list;
      marked = subst (MarksFreeBlocksUsed c.args.map.now (list_blocks_backwards (disk_of_device g.D.BlockDevice c.args.device.now) c.args.list))
          (search (rules, names)) (all_free _ (λ p. p.0.now) (λ p. p.1.now) (λ p b q r. search rules) _ _ _ c.in_default.ensures.visited e).1;
    }
