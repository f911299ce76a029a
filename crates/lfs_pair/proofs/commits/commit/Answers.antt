use Rattle.lfs_pair.proofs.Common.{block_bytes, err_from_is_err_and, disk_of_blocks, changes_view, RawContentFitsInPair, content_view}
use Rattle.lfs_pair.proofs.Erring.{reports_ok, reports_on}
use Rattle.lfs_pair.proofs.Following.{same_error}
use Rattle.std.proofs.Common.{subst, rules, Some, Err, inr, refl, sym, ap, ◌∙◌}
use Rattle.lfs_pair.proofs.Changed.{is_active, made_here}
use Rattle.lfs_pair.proofs.Behind.{appends_some, made_behind, reading_more, refuses_none, same_header, write_again, commits_appended, commits_compacted, is_full, is_read_on, unread, is_to_write, reading_behind, same_disk, stops_behind}
use Rattle.lfs_pair.proofs.commits.commit.Goals as goal
use Rattle.lfs_device.specs.declared.geometry.Geometry.{Geometry}

-- what the calls ask

pub append_changes-requires : goal.append_changes-requires
append_changes-requires g c = record { can = c.requires.can; holds = c.requires.holds; buf = search rules }

-- if nothing is written

pub returns-then-not-content_fits-clause-ends : goal.returns-then-not-content_fits-clause-ends
returns-then-not-content_fits-clause-ends g c = record {
  done = search rules;
  held = c.requires.holds;
  full = λ is.
      let made = made_here _ _ c.args.pair.now c.requires.can.held _ (changes_view c.args.changes.now) (Some (content_view c.in_ok-content.content)) c.requires.can.is_pair c.requires.holds c.in_ok-content.ensures.content in
      is_full (unread g.D.BlockDevice c.args.dev.now).device made c.in_ok-content.ensures.logged (λ fits.
      let is = c.content_fits.ensures.1 (subst (λ (k : Geometry). RawContentFitsInPair k.block_size k.page (content_view c.in_ok-content.content)) (sym c.geometry-geometry.ensures) fits) in
      absurd (cc (c.if-not-content_fits.true, is)));
}

-- if the changes are appended

pub returns-in_err-written-clause-device : goal.returns-in_err-written-clause-device
returns-in_err-written-clause-device g c = reading_more 0 (reading_behind 0 (unread g.D.BlockDevice c.args.dev.now) c.in_err-written.ensures.writes.device c.in_err-written.ensures.writes.few)

pub returns-in_err-written-clause-faults : goal.returns-in_err-written-clause-faults
returns-in_err-written-clause-faults g c =
    let p = err_from_is_err_and c.from_residual-in_err-written.result c.from_residual-in_err-written.ensures.1 in
    reports_on p.1 p.2 refl c.in_err-written.ensures.writes.faults

pub returns-in_err-written-clause-stops : goal.returns-in_err-written-clause-stops
returns-in_err-written-clause-stops g c =
    let to = is_to_write c.requires.can c.requires.holds c.in_ok-content.ensures.content c.in_ok-content.ensures.logged c.geometry-geometry.ensures (c.content_fits.ensures.0 (search rules)) in
    stops_behind (unread g.D.BlockDevice c.args.dev.now) to refl c.in_err-written.ensures.writes.device (λ cleanly. c.in_err-written.ensures.stops _ (made_behind (unread g.D.BlockDevice c.args.dev.now) to))

pub returns-in-Some-clause-ends : goal.returns-in-Some-clause-ends
returns-in-Some-clause-ends g c = record {
  done = λ done.
      let to = is_to_write c.requires.can c.requires.holds c.in_ok-content.ensures.content c.in_ok-content.ensures.logged c.geometry-geometry.ensures (c.content_fits.ensures.0 (search rules)) in
      let header = c.with_content-header.ensures in
      commits_appended (unread g.D.BlockDevice c.args.dev.now) to (appends_some c.in-Some.is c.in_ok-written.ensures.appends _ c.with_end.result (made_behind (unread g.D.BlockDevice c.args.dev.now) to) to.logged
      (same_header header (c.with_end.ensures _ header.sums)));
  full = search rules;
  held = c.in_ok-written.ensures.block;
}

pub returns-in-Some-clause-device : goal.returns-in-Some-clause-device
returns-in-Some-clause-device g c = reading_more 0 (reading_behind 0 (unread g.D.BlockDevice c.args.dev.now) c.in_ok-written.ensures.writes.device c.in_ok-written.ensures.writes.few)

pub returns-in-Some-clause-stops : goal.returns-in-Some-clause-stops
returns-in-Some-clause-stops g c =
    let to = is_to_write c.requires.can c.requires.holds c.in_ok-content.ensures.content c.in_ok-content.ensures.logged c.geometry-geometry.ensures (c.content_fits.ensures.0 (search rules)) in
    stops_behind (unread g.D.BlockDevice c.args.dev.now) to refl c.in_ok-written.ensures.writes.device (λ cleanly. c.in_ok-written.ensures.stops _ (made_behind (unread g.D.BlockDevice c.args.dev.now) to))

-- if the pair is compacted

pub returns-in_err-content-2-clause-device : goal.returns-in_err-content-2-clause-device
returns-in_err-content-2-clause-device g c = reading_more 0 (reading_behind 0 (unread g.D.BlockDevice c.args.dev.now) c.in_ok-written.ensures.writes.device c.in_ok-written.ensures.writes.few)

pub returns-in_err-content-2-clause-faults : goal.returns-in_err-content-2-clause-faults
returns-in_err-content-2-clause-faults g c =
    let no = refuses_none c.in_default.is c.in_ok-written.ensures.no_room in
    let p = err_from_is_err_and c.from_residual-in_err-content-2.result c.from_residual-in_err-content-2.ensures.1 in
    record { fault = λ gives. absurd (let io = same_error p.1 p.2 gives in let memory = c.in_err-content-2.ensures.errors in cc); no_fault = λ other. (is_read_on (unread g.D.BlockDevice c.args.dev.now) no).faultless }

pub returns-in_err-content-2-clause-error : goal.returns-in_err-content-2-clause-error
returns-in_err-content-2-clause-error g c =
    let no = refuses_none c.in_default.is c.in_ok-written.ensures.no_room in
    let p = err_from_is_err_and c.from_residual-in_err-content-2.result c.from_residual-in_err-content-2.ensures.1 in
    rw (p.1 ∙ ap Err p.2) (record { errors = inr c.in_err-content-2.ensures.errors; pair = refl; no_memory = λ _. (is_read_on (unread g.D.BlockDevice c.args.dev.now) no).device })

pub returns-in_err-content-2-clause-stops : goal.returns-in_err-content-2-clause-stops
returns-in_err-content-2-clause-stops g c =
    let to = is_to_write c.requires.can c.requires.holds c.in_ok-content.ensures.content c.in_ok-content.ensures.logged c.geometry-geometry.ensures (c.content_fits.ensures.0 (search rules)) in
    stops_behind (unread g.D.BlockDevice c.args.dev.now) to refl c.in_ok-written.ensures.writes.device (λ cleanly. c.in_ok-written.ensures.stops _ (made_behind (unread g.D.BlockDevice c.args.dev.now) to))

pub compact-requires : goal.compact-requires
compact-requires g c =
    let to = is_to_write c.requires.can c.requires.holds c.in_ok-content.ensures.content c.in_ok-content.ensures.logged c.geometry-geometry.ensures (c.content_fits.ensures.0 (search rules)) in
    let no = refuses_none c.in_default.is c.in_ok-written.ensures.no_room in
    let again = write_again to (made_here _ _ c.args.pair.now c.requires.can.held _ (changes_view c.args.changes.now) (Some (content_view c.in_ok-content-2.content)) c.requires.can.is_pair (c.in_ok-written.ensures.block ∙ ap (λ d. block_bytes d c.args.pair.now.active) (is_read_on (unread g.D.BlockDevice c.args.dev.now) no).device.same) c.in_ok-content-2.ensures.content) in
    let old = disk_of_blocks (g.D.BlockDevice.geometry c.args.dev.now) (g.D.BlockDevice.blocks c.args.dev.now) in
    rw (same_disk (is_read_on (unread g.D.BlockDevice c.args.dev.now) no).device) (record {
      address = c.requires.can.address;
      active = is_active old _ c.args.pair.now _ c.requires.can.is_pair;
      buf = search rules;
      logged = again.logged;
      names = again.names;
      fits = again.fits;
    })

pub returns-in_err-compact-clause-device : goal.returns-in_err-compact-clause-device
returns-in_err-compact-clause-device g c =
    let no = refuses_none c.in_default.is c.in_ok-written.ensures.no_room in
    reading_behind 1 (is_read_on (unread g.D.BlockDevice c.args.dev.now) no) c.in_err-compact.ensures.writes.device c.in_err-compact.ensures.writes.few

pub returns-in_err-compact-clause-faults : goal.returns-in_err-compact-clause-faults
returns-in_err-compact-clause-faults g c =
    let no = refuses_none c.in_default.is c.in_ok-written.ensures.no_room in
    let p = err_from_is_err_and c.from_residual-in_err-compact.result c.from_residual-in_err-compact.ensures.1 in
    reports_on p.1 p.2 (is_read_on (unread g.D.BlockDevice c.args.dev.now) no).faultless c.in_err-compact.ensures.writes.faults

pub returns-in_err-compact-clause-stops : goal.returns-in_err-compact-clause-stops
returns-in_err-compact-clause-stops g c =
    let to = is_to_write c.requires.can c.requires.holds c.in_ok-content.ensures.content c.in_ok-content.ensures.logged c.geometry-geometry.ensures (c.content_fits.ensures.0 (search rules)) in
    let no = refuses_none c.in_default.is c.in_ok-written.ensures.no_room in
    let again = write_again to (made_here _ _ c.args.pair.now c.requires.can.held _ (changes_view c.args.changes.now) (Some (content_view c.in_ok-content-2.content)) c.requires.can.is_pair (c.in_ok-written.ensures.block ∙ ap (λ d. block_bytes d c.args.pair.now.active) (is_read_on (unread g.D.BlockDevice c.args.dev.now) no).device.same) c.in_ok-content-2.ensures.content) in
    stops_behind (is_read_on (unread g.D.BlockDevice c.args.dev.now) no) again refl c.in_err-compact.ensures.writes.device c.in_err-compact.ensures.stops

pub returns-clause-ends : goal.returns-clause-ends
returns-clause-ends g c = record {
  done = λ done.
      let to = is_to_write c.requires.can c.requires.holds c.in_ok-content.ensures.content c.in_ok-content.ensures.logged c.geometry-geometry.ensures (c.content_fits.ensures.0 (search rules)) in
      let no = refuses_none c.in_default.is c.in_ok-written.ensures.no_room in
      let again = write_again to (made_here _ _ c.args.pair.now c.requires.can.held _ (changes_view c.args.changes.now) (Some (content_view c.in_ok-content-2.content)) c.requires.can.is_pair (c.in_ok-written.ensures.block ∙ ap (λ d. block_bytes d c.args.pair.now.active) (is_read_on (unread g.D.BlockDevice c.args.dev.now) no).device.same) c.in_ok-content-2.ensures.content) in
      commits_compacted (unread g.D.BlockDevice c.args.dev.now) again no c.in_ok-compact.ensures.done;
  full = search rules;
  held = c.in_ok-written.ensures.block ∙ sym c.in_ok-compact.ensures.done.compacted.kept;
}

pub returns-clause-device : goal.returns-clause-device
returns-clause-device g c =
    let no = refuses_none c.in_default.is c.in_ok-written.ensures.no_room in
    reading_behind 1 (is_read_on (unread g.D.BlockDevice c.args.dev.now) no) c.in_ok-compact.ensures.writes.device c.in_ok-compact.ensures.writes.few

pub returns-clause-faults : goal.returns-clause-faults
returns-clause-faults g c =
    let no = refuses_none c.in_default.is c.in_ok-written.ensures.no_room in
    reports_ok (c.in_ok-compact.ensures.writes.faults.no_fault (λ gives. absurd (cc)) ∙ (is_read_on (unread g.D.BlockDevice c.args.dev.now) no).faultless)

pub returns-clause-stops : goal.returns-clause-stops
returns-clause-stops g c =
    let to = is_to_write c.requires.can c.requires.holds c.in_ok-content.ensures.content c.in_ok-content.ensures.logged c.geometry-geometry.ensures (c.content_fits.ensures.0 (search rules)) in
    let no = refuses_none c.in_default.is c.in_ok-written.ensures.no_room in
    let again = write_again to (made_here _ _ c.args.pair.now c.requires.can.held _ (changes_view c.args.changes.now) (Some (content_view c.in_ok-content-2.content)) c.requires.can.is_pair (c.in_ok-written.ensures.block ∙ ap (λ d. block_bytes d c.args.pair.now.active) (is_read_on (unread g.D.BlockDevice c.args.dev.now) no).device.same) c.in_ok-content-2.ensures.content) in
    stops_behind (is_read_on (unread g.D.BlockDevice c.args.dev.now) no) again refl c.in_ok-compact.ensures.writes.device c.in_ok-compact.ensures.stops
