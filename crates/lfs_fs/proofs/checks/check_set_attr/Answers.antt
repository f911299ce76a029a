use Rattle.std.proofs.Common.{◌∙◌, ap, arith, subst, sym}
use Rattle.lfs_fs.proofs.Common.{node_attributes_of, lacks_room, IsAttributesSize, TreeState, tree_summary, visible_tree, files_view, session_view}
use Rattle.lfs_model.specs.session.Operations as ops
use Rattle.lfs_fs.proofs.Answered.{ready_later}
use Rattle.lfs_fs.proofs.Checked.{lookup_failed}
use Rattle.lfs_fs.proofs.Errors.{given_on}
use Rattle.lfs_fs.proofs.Late.{set_late}
use Rattle.lfs_fs.proofs.OpenFiles.{lacks_is}
use Rattle.lfs_fs.proofs.Questions.{asked_twice, broken_twice, error_twice}
use Rattle.lfs_fs.proofs.SetAttrChecks.{can_replace, set_attr_checked}
use Rattle.lfs_fs.proofs.checks.check_set_attr.Goals as goal

pub replaced_attributes_size-size-requires : goal.replaced_attributes_size-size-requires
replaced_attributes_size-size-requires g c =
    can_replace (node_attributes_of (visible_tree c.args.tree.now c.in-Some.path)) c.in_ok-taken.taken c.args.kind c.in_ok-found.found.bytes c.args.value.now (omega arith)
    (subst (λ (s : TreeState). IsAttributesSize (node_attributes_of (visible_tree s c.in-Some.path)) c.in_ok-taken.taken) c.in_ok-found.ensures.asks.asked.same c.in_ok-taken.ensures.size) c.in_ok-found.ensures.bytes.0

pub returns : goal.returns
returns g c =
    let asked = asked_twice _ _ _ c.in_ok-found.ensures.asks.asked c.in_ok-taken.ensures.asks.asked in
    set_attr_checked (session_view c.args.tree.now c.args.files.now) c.args.bytes.now c.args.kind c.args.value.now c.in-Some.path c.in_ok-found.found.finding c.get_attr.new.self c.attributes_size.new.self
    c.in_ok-found.found.bytes c.in_ok-taken.taken c.replaced_attributes_size-size.result c.name_len.result c.is_nothing.result c.exceeds_attr_max.result c.exceeds_entry_limit.result c.lacks_free_blocks.result
    c.refuse_if.result c.refuse_if-2.result c.refuse_if-3.result c.refuse_if-4.result c.value_or_refusal.result
    c.if-has_failed.ensures c.if-not-is_writable.ensures c.in-Some.ensures c.in_ok-found.ensures.asks.asked asked c.in_ok-found.ensures.found
    c.in_ok-found.ensures.bytes.0 c.in_ok-taken.ensures.size c.replaced_attributes_size-size.ensures
    c.is_nothing.ensures c.refuse_if.ensures c.exceeds_attr_max.ensures c.refuse_if-2.ensures c.name_len.ensures.len c.exceeds_entry_limit.ensures c.refuse_if-3.ensures
    (c.lacks_free_blocks.ensures ∙ lacks_is c.attributes_size.new.self c.args.files.now 2 (ready_later _ _ c.args.files.now (c.requires (sym c.if-has_failed.ensures)) asked) ∙ ap (λ z. lacks_room (tree_summary c.attributes_size.new.self) (files_view z c.args.files.now) 2) asked.same) c.refuse_if-4.ensures c.value_or_refusal.ensures

pub returns-in_err-found : goal.returns-in_err-found
returns-in_err-found g c =
    lookup_failed (session_view c.args.tree.now c.args.files.now) (ops.SetAttr c.args.bytes.now c.args.kind c.args.value.now) _ c.in_err-found.field-0.0 _ c.from_residual.result c.if-has_failed.ensures c.in_err-found.ensures.asks.broken c.in_err-found.ensures.asks.errors (set_late (session_view c.args.tree.now c.args.files.now) c.args.bytes.now c.args.kind c.args.value.now c.in-Some.path c.if-has_failed.ensures c.if-not-is_writable.ensures c.in-Some.ensures)
    (given_on _ c.from_residual.result c.from_residual.ensures.1)

pub returns-in_err-taken : goal.returns-in_err-taken
returns-in_err-taken g c =
    let asked = c.in_ok-found.ensures.asks.asked in
    lookup_failed (session_view c.args.tree.now c.args.files.now) (ops.SetAttr c.args.bytes.now c.args.kind c.args.value.now) _ c.in_err-taken.field-0.0 _ c.from_residual-in_err-taken.result c.if-has_failed.ensures
    (broken_twice _ _ _ asked c.in_err-taken.ensures.asks.broken) (error_twice _ _ _ _ asked c.in_err-taken.ensures.asks.errors) (set_late (session_view c.args.tree.now c.args.files.now) c.args.bytes.now c.args.kind c.args.value.now c.in-Some.path c.if-has_failed.ensures c.if-not-is_writable.ensures c.in-Some.ensures)
    (given_on _ c.from_residual-in_err-taken.result c.from_residual-in_err-taken.ensures.1)
