use Rattle.std.proofs.Common.{◌≡◌, ◌∙◌, ◌&&◌, [], ap, false, nat_lt, refl, sym, subst}
use Rattle.std.proofs.lemmas.Bool.{le-ltb}
use Rattle.lfs_model.specs.session.Operations as ops
use Rattle.lfs_fs.proofs.Common.{AreTreeContents, writer_contents_bytes, IsOperationApplied, PowerLossesLeaveEither, visible_tree, flags_view}
use Rattle.lfs_tree.specs.OpenContents.{kept_thread}
use Rattle.lfs_fs.proofs.Beginning.{begun_as_is, begun_empty, is_file_there}
use Rattle.lfs_fs.proofs.Stopping.{nothing_yet, then_reads}
use Rattle.lfs_fs.proofs.writers.open_existing_file.Goals as goal
use Rattle.lfs_fs.proofs.writers.open_existing_file.Goals.{else-contains-via-then-contains+else-size-gt0, else-contains-via-else-contains}

pub returns-then-size-gt0-clause-recovered : goal.returns-then-size-gt0-clause-recovered
returns-then-size-gt0-clause-recovered g c = subst (λ t. IsOperationApplied t ops.Recover c.recover.new.self) c.in_ok-contents.ensures.same (c.in_ok-recover.ensures.does.done ops.Recover refl)

pub returns-clause-recovered : goal.returns-clause-recovered
returns-clause-recovered g c = c.in_ok-recover-2.ensures.does.done ops.Recover refl

pub returns-then-size-gt0-clause-begun : goal.returns-then-size-gt0-clause-begun
returns-then-size-gt0-clause-begun g c =
    let e = c.in_ok-contents.ensures in
    let done = subst (λ t. IsOperationApplied t ops.Recover c.recover.new.self) e.same (c.in_ok-recover.ensures.does.done ops.Recover refl) in
    let over = subst (λ t. AreTreeContents t c.args.path c.in_ok-contents.contents) e.same (e.over c.args.path (is_file_there c.args.tree.now c.args.path c.args.size _ c.requires)) in
    let none = subst (λ t. writer_contents_bytes (kept_thread t) c.in_ok-contents.contents ≡ []) e.same e.bytes in
    begun_empty c.args.tree.now c.recover.new.self c.args.path c.args.size (flags_view c.args.flags) c.contains-appends.result c.in_ok-contents.contents c.requires done
    (c.lemma_few_blocks.ensures c.args.tree.now c.recover.new.self ops.Recover c.requires.sound c.requires.writable done)
    (sym (c.contains.ensures tt) ∙ c.if-contains.true) c.if-size-gt0.true (c.contains-appends.ensures tt)
    (c.lemma_contents_stay.ensures.over c.args.tree.now c.recover.new.self ops.Recover c.args.path c.in_ok-contents.contents over c.requires.sound done refl)
    (c.lemma_contents_stay.ensures.bytes c.args.tree.now c.recover.new.self ops.Recover c.args.path c.in_ok-contents.contents over c.requires.sound done refl) none e.form

pub returns-clause-begun : goal.returns-clause-begun
returns-clause-begun g c =
    let done = c.in_ok-recover-2.ensures.does.done ops.Recover refl in
    let none : ((flags_view c.args.flags).truncate && nat_lt 0 c.args.size) ≡ false = elim c.else-contains.branch [
      | else-contains-via-then-contains+else-size-gt0 w ↦ ap (λ b. b && nat_lt 0 c.args.size) (sym (c.contains.ensures tt) ∙ w.if-contains.true) ∙ le-ltb 0 c.args.size w.if-size-gt0.false
      | else-contains-via-else-contains w ↦ ap (λ b. b && nat_lt 0 c.args.size) (sym (c.contains.ensures tt) ∙ w.if-contains.false)
    ] in
    begun_as_is c.args.tree.now c.recover-2.new.self c.args.path c.args.size (flags_view c.args.flags) c.contains-appends.result c.requires done
    (c.lemma_few_blocks.ensures c.args.tree.now c.recover-2.new.self ops.Recover c.requires.sound c.requires.writable done) none (c.contains-appends.ensures tt)

pub returns-in_err-contents-clause-survives : goal.returns-in_err-contents-clause-survives
returns-in_err-contents-clause-survives g c = then_reads c.args.tree.now c.args.tree.now c.empty_contents.new.self.history _ (nothing_yet c.args.tree.now c.requires.sound c.requires.writable) c.in_err-contents.ensures.broken.reads

pub returns-in_err-recover-clause-survives : goal.returns-in_err-recover-clause-survives
returns-in_err-recover-clause-survives g c = subst (λ t. PowerLossesLeaveEither t c.recover.new.self (visible_tree t)) c.in_ok-contents.ensures.same c.recover.ensures.does.survives

pub returns-then-size-gt0-clause-survives : goal.returns-then-size-gt0-clause-survives
returns-then-size-gt0-clause-survives g c = subst (λ t. PowerLossesLeaveEither t c.recover.new.self (visible_tree t)) c.in_ok-contents.ensures.same c.recover.ensures.does.survives

pub returns-in_err-recover-2-clause-survives : goal.returns-in_err-recover-2-clause-survives
returns-in_err-recover-2-clause-survives g c = c.recover-2.ensures.does.survives

pub returns-clause-survives : goal.returns-clause-survives
returns-clause-survives g c = c.recover-2.ensures.does.survives
