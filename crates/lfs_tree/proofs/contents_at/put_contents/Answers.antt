use Rattle.std.proofs.Common.{ap, sym, ◌∙◌}
use Rattle.lfs_tree.proofs.Common.{finished_struct}
use Rattle.lfs_tree.proofs.PutContents.{held_part, held_struct, held_there, list_part, store_of, stored_from, reports_put}
use Rattle.lfs_tree.proofs.contents_at.put_contents.Goals as goal

pub buffered_content-requires : goal.buffered_content-requires
buffered_content-requires g c = held_there c.args.thread.now.kept c.args.spot c.args.contents.now c.in-InMemory.list c.requires.can c.in-InMemory.is

pub set_struct-requires-clause-can : goal.set_struct-requires-clause-can
set_struct-requires-clause-can g c =
    store_of c.args.thread.now.kept c.args.spot c.args.contents.now c.requires.can 0x201 c.buffered_content.result.now
    (held_part c.args.thread.now.kept c.args.spot c.args.contents.now c.in-InMemory.list c.requires.can c.in-InMemory.is c.buffered_content.result.now c.buffered_content.ensures)
    (held_struct c.args.contents.now c.in-InMemory.list c.buffered_content.result.now c.in-InMemory.is c.buffered_content.ensures)

pub set_struct-requires-in-Finished-clause-can : goal.set_struct-requires-in-Finished-clause-can
set_struct-requires-in-Finished-clause-can g c =
    store_of c.args.thread.now.kept c.args.spot c.args.contents.now c.requires.can 0x202 c.ctz_bytes-bytes.result
    (list_part c.in-Finished.stored.head c.in-Finished.stored.size c.ctz_bytes-bytes.result c.ctz_bytes-bytes.ensures.bytes) (c.ctz_bytes-bytes.ensures.read ∙ sym (ap finished_struct c.in-Finished.is))

pub returns-in-InMemory-clause-stored : goal.returns-in-InMemory-clause-stored
returns-in-InMemory-clause-stored g c =
    stored_from c.args.thread.now.kept c.set_struct.new.thread.kept c.args.spot c.args.contents.now 0x201 c.buffered_content.result.now
    (held_part c.args.thread.now.kept c.args.spot c.args.contents.now c.in-InMemory.list c.requires.can c.in-InMemory.is c.buffered_content.result.now c.buffered_content.ensures)
    (held_struct c.args.contents.now c.in-InMemory.list c.buffered_content.result.now c.in-InMemory.is c.buffered_content.ensures) c.set_struct.result c.set_struct.ensures.is_stored

pub returns-in-InMemory-clause-reports : goal.returns-in-InMemory-clause-reports
returns-in-InMemory-clause-reports g c = reports_put c.args.thread.now c.set_struct.new.thread c.args.spot.pair c.args.spot.id 0x201 c.buffered_content.result.now c.set_struct.result c.requires.can.room c.set_struct.ensures.errors

pub returns-in-InMemory-clause-survives : goal.returns-in-InMemory-clause-survives
returns-in-InMemory-clause-survives g c can =
    c.set_struct.ensures.survives (store_of c.args.thread.now.kept c.args.spot c.args.contents.now can 0x201 c.buffered_content.result.now
    (held_part c.args.thread.now.kept c.args.spot c.args.contents.now c.in-InMemory.list can c.in-InMemory.is c.buffered_content.result.now c.buffered_content.ensures)
    (held_struct c.args.contents.now c.in-InMemory.list c.buffered_content.result.now c.in-InMemory.is c.buffered_content.ensures))

pub returns-in-Finished-clause-stored : goal.returns-in-Finished-clause-stored
returns-in-Finished-clause-stored g c =
    stored_from c.args.thread.now.kept c.set_struct-in-Finished.new.thread.kept c.args.spot c.args.contents.now 0x202 c.ctz_bytes-bytes.result
    (list_part c.in-Finished.stored.head c.in-Finished.stored.size c.ctz_bytes-bytes.result c.ctz_bytes-bytes.ensures.bytes) (c.ctz_bytes-bytes.ensures.read ∙ sym (ap finished_struct c.in-Finished.is))
    c.set_struct-in-Finished.result c.set_struct-in-Finished.ensures.is_stored

pub returns-in-Finished-clause-reports : goal.returns-in-Finished-clause-reports
returns-in-Finished-clause-reports g c =
    reports_put c.args.thread.now c.set_struct-in-Finished.new.thread c.args.spot.pair c.args.spot.id 0x202 c.ctz_bytes-bytes.result c.set_struct-in-Finished.result c.requires.can.room c.set_struct-in-Finished.ensures.errors

pub returns-in-Finished-clause-survives : goal.returns-in-Finished-clause-survives
returns-in-Finished-clause-survives g c can =
    c.set_struct-in-Finished.ensures.survives (store_of c.args.thread.now.kept c.args.spot c.args.contents.now can 0x202 c.ctz_bytes-bytes.result
    (list_part c.in-Finished.stored.head c.in-Finished.stored.size c.ctz_bytes-bytes.result c.ctz_bytes-bytes.ensures.bytes) (c.ctz_bytes-bytes.ensures.read ∙ sym (ap finished_struct c.in-Finished.is)))
