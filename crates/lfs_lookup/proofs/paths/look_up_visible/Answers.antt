use Rattle.std.proofs.Common.{◌≡◌, None, ap, subst, ◌∙◌, [], arith}
use Rattle.lfs_lookup.proofs.Common.{directory_pair_count, IsPathParent, parent_refusal, err_from_is_err_and, parents_refusal, disk_tree}
use Rattle.lfs_lookup.specs.AtPath.{ParentsAllowLookup}
use Rattle.lfs_lookup.proofs.ReadOnly.{only_read, reported_behind}
use Rattle.lfs_lookup.proofs.LoadedDown.{down_last, down_short, run_same, stops_none}
use Rattle.lfs_lookup.proofs.RecentBlocks.{on_ok, passes_none}
use Rattle.lfs_lookup.proofs.Descended.{hiding_same, names_are, sum_is, showed_in, few_same}
use Rattle.lfs_lookup.proofs.HalvedDown.{halved_last, halved_short}
use Rattle.lfs_lookup.proofs.paths.look_up_visible.Goals as goal

pub returns-in_err-parent-clause-reads : goal.returns-in_err-parent-clause-reads
returns-in_err-parent-clause-reads g c = record {
  few = (
      let is = names_are (λ name. name.now) c.args.path.now _ _ c.in-Some.ensures.cases.0 in
      let s = sum_is (directory_pair_count c.args.thread.now.kept.pairs) _ _ _ is in
      let few = c.find_directory.ensures.reads.few in
      omega (arith, s, few)
      );
  halves = λ none. (
      let is = names_are (λ name. name.now) c.args.path.now _ _ c.in-Some.ensures.cases.0 in
      halved_short c.args.thread.now c.find_directory.new.thread _ _ _ is (c.find_directory.ensures.reads.halves none)
      );
  loads = (
      let is = names_are (λ name. name.now) c.args.path.now _ _ c.in-Some.ensures.cases.0 in
      let p = err_from_is_err_and c.from_residual.result c.from_residual.ensures.1 in
      down_short (λ q. parent_refusal q ≡ None) ParentsAllowLookup c.args.thread.now c.find_directory.new.thread _ _ _ c.find_directory.result c.from_residual.result is
      (passes_none c.find_directory.result c.from_residual.result p.0 p.1) (stops_none ParentsAllowLookup c.from_residual.result p.0 p.1) c.find_directory.ensures.reads.loads
      );
}

pub returns-in-Directory-clause-answer : goal.returns-in-Directory-clause-answer
returns-in-Directory-clause-answer g c =
    let t = c.args.thread.now.kept in
    let is = names_are (λ name. name.now) c.args.path.now _ _ c.in-Some.ensures.cases.0 in
    let d = subst (IsPathParent t _) c.in-Directory.is c.in_ok-parent.ensures.answer in
    showed_in t c.find_directory.new.thread.kept c.args.moved c.find_directory.ensures.reading.only _ _ c.in-Directory.parent c.look_up_name.result d.begins c.look_up_name.ensures.answer _ is (d.fault _)

pub returns-in-Directory-clause-reads : goal.returns-in-Directory-clause-reads
returns-in-Directory-clause-reads g c = record {
  few = (
      let t = c.args.thread.now.kept in
      let is = names_are (λ name. name.now) c.args.path.now _ _ c.in-Some.ensures.cases.0 in
      let d = subst (IsPathParent t _) c.in-Directory.is c.in_ok-parent.ensures.answer in
      let s = sum_is (directory_pair_count c.args.thread.now.kept.pairs) _ _ _ is in
      let few = c.find_directory.ensures.reads.few in
      let more = c.look_up_name.ensures.reads.few in
      let same = few_same t c.find_directory.new.thread.kept c.requires.can.hiding.accepted c.find_directory.ensures.reading.only _ c.in-Directory.parent d.begins in
      omega (arith, s, few, more, same)
      );
  halves = λ none. (
      let t = c.args.thread.now.kept in
      let is = names_are (λ name. name.now) c.args.path.now _ _ c.in-Some.ensures.cases.0 in
      let d = subst (IsPathParent t _) c.in-Directory.is c.in_ok-parent.ensures.answer in
      halved_last c.args.thread.now c.find_directory.new.thread _ _ _ is (c.find_directory.ensures.reads.halves none) c.look_up_name.new.thread c.in-Directory.parent c.requires.can.hiding.accepted c.find_directory.ensures.reading.only d.begins (c.look_up_name.ensures.reads.halves none)
      );
  loads = (
      let t = c.args.thread.now.kept in
      let is = names_are (λ name. name.now) c.args.path.now _ _ c.in-Some.ensures.cases.0 in
      let d = subst (IsPathParent t _) c.in-Directory.is c.in_ok-parent.ensures.answer in
      down_last (λ q. parent_refusal q ≡ None) ParentsAllowLookup c.args.thread.now c.find_directory.new.thread c.look_up_name.new.thread _ _ _ c.in_ok-parent.field-0 c.look_up_name.result _ is c.in_ok-parent.ensures.reads.loads
      (ap parent_refusal c.in-Directory.is) c.find_directory.ensures.reading.only.disk
      (run_same t c.find_directory.new.thread.kept _ c.in-Directory.parent c.requires.can.hiding.accepted c.find_directory.ensures.reading.only d.begins) c.look_up_name.ensures.reads.loads
      );
}

pub returns-in-Directory-clause-reading : goal.returns-in-Directory-clause-reading
returns-in-Directory-clause-reading g c =
    let r = c.look_up_name.ensures.reading in
    record {
      only = only_read _ _ _ c.find_directory.ensures.reading.only r.only;
      works = r.works;
      reported = reported_behind _ _ _ c.look_up_name.result c.find_directory.ensures.reading.only (c.in_ok-parent.ensures.reading.reported.no_fault (λ e. absurd (let k : _ = e in cc))) r.only r.reported;
    }

pub returns-in-File-clause-answer : goal.returns-in-File-clause-answer
returns-in-File-clause-answer g c =
    let t = c.args.thread.now.kept in
    let is = names_are (λ name. name.now) c.args.path.now _ _ c.in-Some.ensures.cases.0 in
    let d = subst (IsPathParent t _) c.in-File.is c.in_ok-parent.ensures.answer in
    ap (parents_refusal (disk_tree t.disk t.pairs) []) is ∙ d.fault _

pub returns-in-File-clause-reads : goal.returns-in-File-clause-reads
returns-in-File-clause-reads g c = record {
  few = (
      let is = names_are (λ name. name.now) c.args.path.now _ _ c.in-Some.ensures.cases.0 in
      let s = sum_is (directory_pair_count c.args.thread.now.kept.pairs) _ _ _ is in
      let few = c.find_directory.ensures.reads.few in
      omega (arith, s, few)
      );
  halves = λ none. (
      let is = names_are (λ name. name.now) c.args.path.now _ _ c.in-Some.ensures.cases.0 in
      halved_short c.args.thread.now c.find_directory.new.thread _ _ _ is (c.find_directory.ensures.reads.halves none)
      );
  loads = (
      let is = names_are (λ name. name.now) c.args.path.now _ _ c.in-Some.ensures.cases.0 in
      down_short (λ q. parent_refusal q ≡ None) ParentsAllowLookup c.args.thread.now c.find_directory.new.thread _ _ _ c.find_directory.result _ is
      (λ P h. on_ok c.find_directory.result c.in_ok-parent.field-0 P c.in_ok-parent.was h) (λ Q e. absurd (let k : _ = e in cc)) c.find_directory.ensures.reads.loads
      );
}

pub returns-in-Nothing-clause-answer : goal.returns-in-Nothing-clause-answer
returns-in-Nothing-clause-answer g c =
    let t = c.args.thread.now.kept in
    let is = names_are (λ name. name.now) c.args.path.now _ _ c.in-Some.ensures.cases.0 in
    let d = subst (IsPathParent t _) c.in-Nothing.is c.in_ok-parent.ensures.answer in
    ap (parents_refusal (disk_tree t.disk t.pairs) []) is ∙ d.fault _

pub returns-in-Nothing-clause-reads : goal.returns-in-Nothing-clause-reads
returns-in-Nothing-clause-reads g c = record {
  few = (
      let is = names_are (λ name. name.now) c.args.path.now _ _ c.in-Some.ensures.cases.0 in
      let s = sum_is (directory_pair_count c.args.thread.now.kept.pairs) _ _ _ is in
      let few = c.find_directory.ensures.reads.few in
      omega (arith, s, few)
      );
  halves = λ none. (
      let is = names_are (λ name. name.now) c.args.path.now _ _ c.in-Some.ensures.cases.0 in
      halved_short c.args.thread.now c.find_directory.new.thread _ _ _ is (c.find_directory.ensures.reads.halves none)
      );
  loads = (
      let is = names_are (λ name. name.now) c.args.path.now _ _ c.in-Some.ensures.cases.0 in
      down_short (λ q. parent_refusal q ≡ None) ParentsAllowLookup c.args.thread.now c.find_directory.new.thread _ _ _ c.find_directory.result _ is
      (λ P h. on_ok c.find_directory.result c.in_ok-parent.field-0 P c.in_ok-parent.was h) (λ Q e. absurd (let k : _ = e in cc)) c.find_directory.ensures.reads.loads
      );
}

pub look_up_name-requires-clause-can : goal.look_up_name-requires-clause-can
look_up_name-requires-clause-can g c = record { works = c.find_directory.ensures.reading.works; hiding = hiding_same c.args.thread.now.kept c.find_directory.new.thread.kept c.args.moved c.find_directory.ensures.reading.only c.requires.can.hiding }
