use Rattle.std.proofs.Common.{refl, subst, arith}
use Rattle.lfs_lookup.proofs.Common.{directory_pair_count, IsPathParent}
use Rattle.lfs_lookup.proofs.Reading.{answered, further}
use Rattle.lfs_lookup.proofs.Descended.{names_are, sum_is, looked_in, leads_past_file, leads_past_nothing, few_same}
use Rattle.lfs_lookup.proofs.Entered.{hiding_none}
use Rattle.lfs_lookup.proofs.HalvedDown.{halved_last, halved_short}
use Rattle.lfs_lookup.proofs.paths.look_up.Goals as goal

pub returns-in_err-parent-clause-few : goal.returns-in_err-parent-clause-few
returns-in_err-parent-clause-few g c =
    let is = names_are (λ name. name.now) c.args.path.now _ _ c.in-Some.ensures.cases.0 in
    let s = sum_is (directory_pair_count c.args.thread.now.kept.pairs) _ _ _ is in
    let few = c.find_directory.ensures.reads.few in
    omega (arith, s, few)

pub returns-in-Directory-clause-answer : goal.returns-in-Directory-clause-answer
returns-in-Directory-clause-answer g c =
    let t = c.args.thread.now.kept in
    let is = names_are (λ name. name.now) c.args.path.now _ _ c.in-Some.ensures.cases.0 in
    let d = subst (IsPathParent t _) c.in-Directory.is c.in_ok-parent.ensures.answer in
    looked_in t c.find_directory.new.thread.kept c.find_directory.ensures.reading.only _ _ c.in-Directory.parent c.search_directory.result d.begins c.search_directory.ensures.answer _ is (d.fault _)

pub returns-in-Directory-clause-few : goal.returns-in-Directory-clause-few
returns-in-Directory-clause-few g c =
    let t = c.args.thread.now.kept in
    let is = names_are (λ name. name.now) c.args.path.now _ _ c.in-Some.ensures.cases.0 in
    let d = subst (IsPathParent t _) c.in-Directory.is c.in_ok-parent.ensures.answer in
    let s = sum_is (directory_pair_count c.args.thread.now.kept.pairs) _ _ _ is in
    let few = c.find_directory.ensures.reads.few in
    let more = c.search_directory.ensures.few in
    let same = few_same t c.find_directory.new.thread.kept c.requires.can.settled.accepted c.find_directory.ensures.reading.only _ c.in-Directory.parent d.begins in
    omega (arith, s, few, more, same)

pub returns-in-Directory-clause-reading : goal.returns-in-Directory-clause-reading
returns-in-Directory-clause-reading g c =
    further _ _ _ c.search_directory.result (answered _ _ c.find_directory.result c.in_ok-parent.field-0 c.in_ok-parent.was c.find_directory.ensures.reading) c.search_directory.ensures.reading

pub returns-in-File-clause-answer : goal.returns-in-File-clause-answer
returns-in-File-clause-answer g c =
    let t = c.args.thread.now.kept in
    let is = names_are (λ name. name.now) c.args.path.now _ _ c.in-Some.ensures.cases.0 in
    leads_past_file t _ _ _ is (subst (IsPathParent t _) c.in-File.is c.in_ok-parent.ensures.answer)

pub returns-in-File-clause-few : goal.returns-in-File-clause-few
returns-in-File-clause-few g c =
    let is = names_are (λ name. name.now) c.args.path.now _ _ c.in-Some.ensures.cases.0 in
    let s = sum_is (directory_pair_count c.args.thread.now.kept.pairs) _ _ _ is in
    let few = c.find_directory.ensures.reads.few in
    omega (arith, s, few)

pub returns-in-Nothing-clause-answer : goal.returns-in-Nothing-clause-answer
returns-in-Nothing-clause-answer g c =
    let t = c.args.thread.now.kept in
    let is = names_are (λ name. name.now) c.args.path.now _ _ c.in-Some.ensures.cases.0 in
    leads_past_nothing t _ _ _ is (subst (IsPathParent t _) c.in-Nothing.is c.in_ok-parent.ensures.answer)

pub returns-in-Nothing-clause-few : goal.returns-in-Nothing-clause-few
returns-in-Nothing-clause-few g c =
    let is = names_are (λ name. name.now) c.args.path.now _ _ c.in-Some.ensures.cases.0 in
    let s = sum_is (directory_pair_count c.args.thread.now.kept.pairs) _ _ _ is in
    let few = c.find_directory.ensures.reads.few in
    omega (arith, s, few)

pub find_directory-requires-clause-can : goal.find_directory-requires-clause-can
find_directory-requires-clause-can g c = record { works = c.requires.can.works; hiding = hiding_none c.args.thread.now.kept c.requires.can.settled }

pub returns-in_err-parent-clause-halves : goal.returns-in_err-parent-clause-halves
returns-in_err-parent-clause-halves g c =
    let is = names_are (λ name. name.now) c.args.path.now _ _ c.in-Some.ensures.cases.0 in
    halved_short c.args.thread.now c.find_directory.new.thread _ _ _ is (c.find_directory.ensures.reads.halves refl)

pub returns-in-File-clause-halves : goal.returns-in-File-clause-halves
returns-in-File-clause-halves g c =
    let is = names_are (λ name. name.now) c.args.path.now _ _ c.in-Some.ensures.cases.0 in
    halved_short c.args.thread.now c.find_directory.new.thread _ _ _ is (c.find_directory.ensures.reads.halves refl)

pub returns-in-Nothing-clause-halves : goal.returns-in-Nothing-clause-halves
returns-in-Nothing-clause-halves g c =
    let is = names_are (λ name. name.now) c.args.path.now _ _ c.in-Some.ensures.cases.0 in
    halved_short c.args.thread.now c.find_directory.new.thread _ _ _ is (c.find_directory.ensures.reads.halves refl)

pub returns-in-Directory-clause-halves : goal.returns-in-Directory-clause-halves
returns-in-Directory-clause-halves g c =
    let t = c.args.thread.now.kept in
    let is = names_are (λ name. name.now) c.args.path.now _ _ c.in-Some.ensures.cases.0 in
    let d = subst (IsPathParent t _) c.in-Directory.is c.in_ok-parent.ensures.answer in
    halved_last c.args.thread.now c.find_directory.new.thread _ _ _ is (c.find_directory.ensures.reads.halves refl) c.search_directory.new.thread c.in-Directory.parent c.requires.can.settled.accepted c.find_directory.ensures.reading.only d.begins c.search_directory.ensures.halves
