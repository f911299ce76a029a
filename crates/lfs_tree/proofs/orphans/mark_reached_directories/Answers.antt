use Rattle.std.proofs.Common.{◌≡◌, ◌<◌, ◌∙◌, ◌++◌, ◌∷◌, ◌-◌, [], Err, List, Some, ap, arith, false, length, length-append, refl, subst, subst₂, sym, take}
use Rattle.lfs_tree.proofs.Common.{length-replicate, slice_get_within, err_from_is_err_and, Disk, Pair, pairs_gstate, IsAccepted, items_view, directory_entries_from, DirectoriesBegin, MarksAndQueues, IsFirstPairOfNamed, answered, answers, begun, both, further, lacks_memory, passed, root_begins}
use Rattle.lfs_tree.proofs.Reached.{IsMarking, first_begin, marked_within, marking_begun, marking_on, next_marked, reach_marks}
use Rattle.lfs_tree.proofs.orphans.mark_reached_directories.Goals as goal

pub mark_reached-requires : goal.mark_reached-requires
mark_reached-requires g c =
    let ps = c.args.thread.now.kept.pairs in
    let root = root_begins c.args.thread.now.kept.disk ps c.requires.accepted in
    let l = slice_get_within ps _ root.pair root.there in
    let e = c.requires.root in
    let s = c.len.ensures in
    let r = ap length c.in_ok-marks.ensures in
    let n = length-replicate c.len.result false in
    omega (arith, l, e, s, r, n)

pub loop-first-init : goal.loop-first-init
loop-first-init g c = record {
  read = begun c.args.thread.now c.requires.works;
  marking = marking_begun c.args.thread.now.kept.disk c.args.thread.now.kept.pairs c.len.result c.args.root c.mark_reached.new.marks.items c.mark_reached.new.pending.items c.requires.accepted c.len.ensures (length-replicate c.len.result false) c.requires.root
      (subst₂ (λ m p. MarksAndQueues (λ n. n ≡ c.args.root) m p c.mark_reached.new.marks.items c.mark_reached.new.pending.items) c.in_ok-marks.ensures c.new-pending.ensures.items c.in_ok-mark_reached.ensures);
}

pub directory_items-requires-clause-can : goal.directory_items-requires-clause-can
directory_items-requires-clause-can g c =
    let inv = c.loop-first.invariant in
    let ps = c.args.thread.now.kept.pairs in
    record {
      works = inv.read.works;
      below = subst (λ (qs : List Pair). c.in-Some.first < length qs) (sym inv.read.only.pairs)
          (marked_within ps c.loop-first.marks.items c.loop-first.pending.items c.in-Some.first inv.marking
          (next_marked ps c.loop-first.marks.items c.loop-first.pending.items c.pop.new.self.items c.in-Some.first c.in-Some.ensures.items inv.marking));
    }

pub directory_items-requires-clause-state : goal.directory_items-requires-clause-state
directory_items-requires-clause-state g c = c.state-state.ensures ∙ ap pairs_gstate (sym c.loop-first.invariant.read.only.pairs)

pub returns-in_err-items-clause-reading : goal.returns-in_err-items-clause-reading
returns-in_err-items-clause-reading g c =
    let p = err_from_is_err_and c.from_residual-in_err-items.result c.from_residual-in_err-items.ensures.1 in
    passed _ _ c.directory_items.result c.from_residual-in_err-items.result _ p.0 c.in_err-items.was p.1 p.2 (further _ _ _ c.directory_items.result c.loop-first.invariant.read c.directory_items.ensures.reading)

pub mark_directories-requires-clause-accepted : goal.mark_directories-requires-clause-accepted
mark_directories-requires-clause-accepted g c =
    let read = both _ _ _ c.loop-first.invariant.read (answered _ _ c.directory_items.result c.in_ok-items.items c.in_ok-items.was c.directory_items.ensures.reading) in
    subst₂ (λ (d : Disk) (qs : List Pair). IsAccepted d qs) (sym read.only.disk) (sym read.only.pairs) c.requires.accepted

pub mark_directories-requires-clause-begin : goal.mark_directories-requires-clause-begin
mark_directories-requires-clause-begin g c =
    let inv = c.loop-first.invariant in
    let ps = c.args.thread.now.kept.pairs in
    let read = both _ _ _ inv.read (answered _ _ c.directory_items.result c.in_ok-items.items c.in_ok-items.was c.directory_items.ensures.reading) in
    subst (λ (qs : List Pair). DirectoriesBegin qs (items_view c.in_ok-items.items.items)) (sym read.only.pairs)
    (subst (DirectoriesBegin ps) (sym (c.in_ok-items.ensures.items ∙ ap (λ (qs : List Pair). directory_entries_from qs (Some c.in-Some.first)) inv.read.only.pairs))
    (first_begin c.args.thread.now.kept.disk ps c.requires.accepted c.loop-first.marks.items c.loop-first.pending.items c.pop.new.self.items c.in-Some.first c.in-Some.ensures.items inv.marking))

pub mark_directories-requires-clause-len : goal.mark_directories-requires-clause-len
mark_directories-requires-clause-len g c =
    let inv = c.loop-first.invariant in
    let read = both _ _ _ inv.read (answered _ _ c.directory_items.result c.in_ok-items.items c.in_ok-items.was c.directory_items.ensures.reading) in
    inv.marking.len ∙ ap length (sym read.only.pairs)

pub loop-first-smaller : goal.loop-first-smaller
loop-first-smaller g c =
    let less = c.in_ok-mark_directories.ensures.less in
    let e = ap length c.in-Some.ensures.items in
    let l = length-append c.pop.new.self.items (c.in-Some.first ∷ []) in
    omega (arith, less, e, l)

pub loop-first-preserved : goal.loop-first-preserved
loop-first-preserved g c =
    let inv = c.loop-first.invariant in
    let ps = c.args.thread.now.kept.pairs in
    let read = both _ _ _ inv.read (answered _ _ c.directory_items.result c.in_ok-items.items c.in_ok-items.was c.directory_items.ensures.reading) in
    let shapes = c.in_ok-items.ensures.items ∙ ap (λ (qs : List Pair). directory_entries_from qs (Some c.in-Some.first)) inv.read.only.pairs in
    record {
      read = read;
      marking = marking_on c.args.thread.now.kept.disk ps c.requires.accepted c.loop-first.marks.items c.loop-first.pending.items c.pop.new.self.items c.in-Some.first c.in-Some.ensures.items inv.marking
          c.mark_directories.new.marks.items c.mark_directories.new.pending.items
          (subst (λ s. MarksAndQueues (IsFirstPairOfNamed ps s) c.loop-first.marks.items c.pop.new.self.items c.mark_directories.new.marks.items c.mark_directories.new.pending.items) shapes
          (subst (λ (qs : List Pair). MarksAndQueues (IsFirstPairOfNamed qs (items_view c.in_ok-items.items.items)) c.loop-first.marks.items c.pop.new.self.items c.mark_directories.new.marks.items c.mark_directories.new.pending.items) read.only.pairs c.in_ok-mark_directories.ensures));
    }

pub returns-in_err-mark_directories-clause-reading : goal.returns-in_err-mark_directories-clause-reading
returns-in_err-mark_directories-clause-reading g c =
    let p = err_from_is_err_and c.from_residual-in_err-mark_directories.result c.from_residual-in_err-mark_directories.ensures.1 in
    let read = both _ _ _ c.loop-first.invariant.read (answered _ _ c.directory_items.result c.in_ok-items.items c.in_ok-items.was c.directory_items.ensures.reading) in
    lacks_memory _ _ c.from_residual-in_err-mark_directories.result (p.1 ∙ ap Err p.2) read

pub returns-clause-marks : goal.returns-clause-marks
returns-clause-marks g c = reach_marks c.args.thread.now.kept.disk c.args.thread.now.kept.pairs c.requires.accepted c.loop-first.marks.items
    (subst (λ pending. IsMarking c.args.thread.now.kept.pairs c.loop-first.marks.items pending)
    (c.in_default.ensures.items ∙ ap (λ items. items ++ []) (c.in_default.ensures.rest ∙ ap (λ n. take (n - 1) c.loop-first.pending.items) c.in_default.ensures.cases.0))
    c.loop-first.invariant.marking)

pub returns-clause-reading : goal.returns-clause-reading
returns-clause-reading g c = answers _ _ _ _ refl c.loop-first.invariant.read
