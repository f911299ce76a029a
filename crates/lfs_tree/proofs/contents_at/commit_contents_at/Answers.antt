use Rattle.std.proofs.Common.{◌∙◌, sym, subst, rules}
use Rattle.lfs_tree.proofs.Common.{err_from_is_err_and, CanReplaceUsedList, IsUsedListReplaced, WritesPairAndTwoFree, HasStoredContents, tree_with_contents, KeptThread, PowerLossLeavesEither, writer_contents_bytes, CanPutContents, sized_on}
use Rattle.lfs_tree.proofs.Carried.{read_is}
use Rattle.lfs_tree.proofs.CarrySurvives.{survives_reading}
use Rattle.lfs_tree.proofs.ReportedFaults.{called_by_writing}
use Rattle.lfs_tree.proofs.Recovered.{reports_given, reports_then, reports_work}
use Rattle.lfs_tree.proofs.PutContents.{file_for, file_found}
use Rattle.lfs_tree.proofs.SettledContents.{called_beside, can_put, commits, settles, survives_put, survives_settled}
use Rattle.lfs_tree.proofs.contents_at.commit_contents_at.Goals as goal

pub returns-in_err-target-clause-survives : goal.returns-in_err-target-clause-survives
returns-in_err-target-clause-survives g c = survives_reading c.args.thread.now c.args.root c.requires.rests c.find_at_path.new.thread.kept.history c.find_at_path.ensures.reading.only.reads _

pub found_file_slot-file-requires : goal.found_file_slot-file-requires
found_file_slot-file-requires g c = file_found c.args.thread.now.kept c.args.path.now c.in_ok-target.target.found c.requires.can.over.file c.in_ok-target.ensures.target.leads

pub put_contents-requires : goal.put_contents-requires
put_contents-requires g c =
    let t = c.args.thread.now in
    let mid = c.find_at_path.new.thread.kept in
    let device = c.device-device.result.now in
    let sized = sized_on g.D.BlockDevice device t.kept.disk (g.D.BlockDevice.geometry device).block_count c.device-device.ensures.disk (g.D.BlockDevice.geometry device).valid.no_smaller (g.met.D.BlockDevice.shape device) in
    record {
      works = c.find_at_path.ensures.reading.works;
      can = (
          subst (λ (k : KeptThread). CanPutContents k c.found_file_slot-file.result.spot c.args.contents) (sym (read_is t.kept mid c.find_at_path.ensures.reading.only))
          (can_put t c.args.root c.requires.rests c.args.path.now c.lemma_block_facts.ensures.large c.lemma_block_facts.ensures.bytes c.args.contents c.requires.can c.found_file_slot-file.result (file_for c.args.thread.now.kept c.args.path.now c.in_ok-target.target.found c.found_file_slot-file.result c.in_ok-target.ensures.target.leads c.found_file_slot-file.ensures) sized mid.history)
          );
    }

pub returns-in_err-put_contents-clause-called : goal.returns-in_err-put_contents-clause-called
returns-in_err-put_contents-clause-called g c =
    let t = c.args.thread.now in
    let mid = c.find_at_path.new.thread.kept in
    let only = c.find_at_path.ensures.reading.only in
    let w = subst (λ (k : KeptThread). WritesPairAndTwoFree k c.found_file_slot-file.result.spot.pair c.put_contents.new.thread.kept) (read_is t.kept mid only) c.put_contents.ensures.device in
    called_by_writing t.kept mid.history c.put_contents.new.thread.kept _ only.reads w.writes

pub returns-in_err-put_contents-clause-survives : goal.returns-in_err-put_contents-clause-survives
returns-in_err-put_contents-clause-survives g c =
    let t = c.args.thread.now in
    let mid = c.find_at_path.new.thread.kept in
    let new = c.put_contents.new.thread.kept in
    let only = c.find_at_path.ensures.reading.only in
    let device = c.device-device.result.now in
    let sized = sized_on g.D.BlockDevice device t.kept.disk (g.D.BlockDevice.geometry device).block_count c.device-device.ensures.disk (g.D.BlockDevice.geometry device).valid.no_smaller (g.met.D.BlockDevice.shape device) in
    let w = subst (λ (k : KeptThread). WritesPairAndTwoFree k c.found_file_slot-file.result.spot.pair new) (read_is t.kept mid only) c.put_contents.ensures.device in
    let k = subst (λ (k : KeptThread). (put : CanPutContents k c.found_file_slot-file.result.spot c.args.contents) → PowerLossLeavesEither k new (tree_with_contents k put.can.path put.can.name (writer_contents_bytes k c.args.contents))) (read_is t.kept mid only) c.put_contents.ensures.survives in
    survives_put t c.args.root c.requires.rests c.args.path.now c.lemma_block_facts.ensures.large c.lemma_block_facts.ensures.bytes c.args.contents c.requires.can c.found_file_slot-file.result (file_for c.args.thread.now.kept c.args.path.now c.in_ok-target.target.found c.found_file_slot-file.result c.in_ok-target.ensures.target.leads c.found_file_slot-file.ensures) sized mid.history new w only.reads k

pub returns-in_err-put_contents-clause-reports : goal.returns-in_err-put_contents-clause-reports
returns-in_err-put_contents-clause-reports g c =
    let p = err_from_is_err_and c.from_residual-in_err-put_contents.result c.from_residual-in_err-put_contents.ensures.1 in
    let mid = c.find_at_path.new.thread.kept in
    let new = c.put_contents.new.thread.kept in
    let quiet = c.find_at_path.ensures.reading.reported.no_fault (λ io. let z = sym c.in_ok-target.was ∙ io in absurd (cc)) in
    record {
      works = search rules;
      no_fault = search rules;
      errors = reports_given c.args.thread.now.kept new c.from_residual-in_err-put_contents.result _ p.0 p.1 p.2
          (reports_then c.args.thread.now.kept mid new _ quiet (reports_work mid new c.put_contents.result _ c.in_err-put_contents.was c.put_contents.ensures.reports));
    }

pub replace_used_list-requires-clause-can : goal.replace_used_list-requires-clause-can
replace_used_list-requires-clause-can g c =
    let t = c.args.thread.now in
    let mid = c.find_at_path.new.thread.kept in
    let new = c.put_contents.new.thread.kept in
    let only = c.find_at_path.ensures.reading.only in
    let device = c.device-device.result.now in
    let sized = sized_on g.D.BlockDevice device t.kept.disk (g.D.BlockDevice.geometry device).block_count c.device-device.ensures.disk (g.D.BlockDevice.geometry device).valid.no_smaller (g.met.D.BlockDevice.shape device) in
    let w = subst (λ (k : KeptThread). WritesPairAndTwoFree k c.found_file_slot-file.result.spot.pair new) (read_is t.kept mid only) c.put_contents.ensures.device in
    let gives = subst (λ (k : KeptThread). (put : CanPutContents k c.found_file_slot-file.result.spot c.args.contents) → HasStoredContents k new put.can.path put.can.name (writer_contents_bytes k c.args.contents) put.come.gone put.come.come) (read_is t.kept mid only) c.in_ok-put_contents.ensures.stored in
    subst (λ l. CanReplaceUsedList new c.found_file_slot-file.result.list l) (sym c.contents_list.ensures)
    (settles t c.args.root c.requires.rests c.args.path.now c.lemma_block_facts.ensures.large c.lemma_block_facts.ensures.bytes c.args.contents c.requires.can c.found_file_slot-file.result (file_for c.args.thread.now.kept c.args.path.now c.in_ok-target.target.found c.found_file_slot-file.result c.in_ok-target.ensures.target.leads c.found_file_slot-file.ensures) sized mid.history new w gives)

pub returns-in_err-replace_used_list-clause-called : goal.returns-in_err-replace_used_list-clause-called
returns-in_err-replace_used_list-clause-called g c =
    let t = c.args.thread.now in
    let mid = c.find_at_path.new.thread.kept in
    let only = c.find_at_path.ensures.reading.only in
    let w = subst (λ (k : KeptThread). WritesPairAndTwoFree k c.found_file_slot-file.result.spot.pair c.put_contents.new.thread.kept) (read_is t.kept mid only) c.put_contents.ensures.device in
    called_beside _ _ _ (called_by_writing t.kept mid.history c.put_contents.new.thread.kept _ only.reads w.writes) c.replace_used_list.ensures.only

pub returns-in_err-replace_used_list-clause-survives : goal.returns-in_err-replace_used_list-clause-survives
returns-in_err-replace_used_list-clause-survives g c =
    let t = c.args.thread.now in
    let mid = c.find_at_path.new.thread.kept in
    let new = c.put_contents.new.thread.kept in
    let only = c.find_at_path.ensures.reading.only in
    let device = c.device-device.result.now in
    let sized = sized_on g.D.BlockDevice device t.kept.disk (g.D.BlockDevice.geometry device).block_count c.device-device.ensures.disk (g.D.BlockDevice.geometry device).valid.no_smaller (g.met.D.BlockDevice.shape device) in
    let w = subst (λ (k : KeptThread). WritesPairAndTwoFree k c.found_file_slot-file.result.spot.pair new) (read_is t.kept mid only) c.put_contents.ensures.device in
    let gives = subst (λ (k : KeptThread). (put : CanPutContents k c.found_file_slot-file.result.spot c.args.contents) → HasStoredContents k new put.can.path put.can.name (writer_contents_bytes k c.args.contents) put.come.gone put.come.come) (read_is t.kept mid only) c.in_ok-put_contents.ensures.stored in
    let k = subst (λ (k : KeptThread). (put : CanPutContents k c.found_file_slot-file.result.spot c.args.contents) → PowerLossLeavesEither k new (tree_with_contents k put.can.path put.can.name (writer_contents_bytes k c.args.contents))) (read_is t.kept mid only) c.put_contents.ensures.survives in
    survives_settled t c.args.root c.requires.rests c.args.path.now c.lemma_block_facts.ensures.large c.lemma_block_facts.ensures.bytes c.args.contents c.requires.can c.found_file_slot-file.result (file_for c.args.thread.now.kept c.args.path.now c.in_ok-target.target.found c.found_file_slot-file.result c.in_ok-target.ensures.target.leads c.found_file_slot-file.ensures) sized mid.history new w gives
    c.replace_used_list.new.thread.kept c.replace_used_list.ensures.only only.reads
    (survives_put t c.args.root c.requires.rests c.args.path.now c.lemma_block_facts.ensures.large c.lemma_block_facts.ensures.bytes c.args.contents c.requires.can c.found_file_slot-file.result (file_for c.args.thread.now.kept c.args.path.now c.in_ok-target.target.found c.found_file_slot-file.result c.in_ok-target.ensures.target.leads c.found_file_slot-file.ensures) sized mid.history new w only.reads k)

pub returns-clause-done : goal.returns-clause-done
returns-clause-done g c =
    let t = c.args.thread.now in
    let mid = c.find_at_path.new.thread.kept in
    let new = c.put_contents.new.thread.kept in
    let only = c.find_at_path.ensures.reading.only in
    let device = c.device-device.result.now in
    let sized = sized_on g.D.BlockDevice device t.kept.disk (g.D.BlockDevice.geometry device).block_count c.device-device.ensures.disk (g.D.BlockDevice.geometry device).valid.no_smaller (g.met.D.BlockDevice.shape device) in
    let w = subst (λ (k : KeptThread). WritesPairAndTwoFree k c.found_file_slot-file.result.spot.pair new) (read_is t.kept mid only) c.put_contents.ensures.device in
    let gives = subst (λ (k : KeptThread). (put : CanPutContents k c.found_file_slot-file.result.spot c.args.contents) → HasStoredContents k new put.can.path put.can.name (writer_contents_bytes k c.args.contents) put.come.gone put.come.come) (read_is t.kept mid only) c.in_ok-put_contents.ensures.stored in
    commits t c.args.root c.requires.rests c.args.path.now c.lemma_block_facts.ensures.large c.lemma_block_facts.ensures.bytes c.args.contents c.requires.can c.found_file_slot-file.result (file_for c.args.thread.now.kept c.args.path.now c.in_ok-target.target.found c.found_file_slot-file.result c.in_ok-target.ensures.target.leads c.found_file_slot-file.ensures) sized mid.history new w gives
    c.replace_used_list.new.thread.kept c.replace_used_list.ensures.only
    (subst (λ l. IsUsedListReplaced new c.found_file_slot-file.result.list l c.replace_used_list.new.thread.kept) c.contents_list.ensures c.in_ok-replace_used_list.ensures.settled)

pub returns-clause-called : goal.returns-clause-called
returns-clause-called g c =
    let t = c.args.thread.now in
    let mid = c.find_at_path.new.thread.kept in
    let only = c.find_at_path.ensures.reading.only in
    let w = subst (λ (k : KeptThread). WritesPairAndTwoFree k c.found_file_slot-file.result.spot.pair c.put_contents.new.thread.kept) (read_is t.kept mid only) c.put_contents.ensures.device in
    called_beside _ _ _ (called_by_writing t.kept mid.history c.put_contents.new.thread.kept _ only.reads w.writes) c.replace_used_list.ensures.only

pub returns-clause-survives : goal.returns-clause-survives
returns-clause-survives g c =
    let t = c.args.thread.now in
    let mid = c.find_at_path.new.thread.kept in
    let new = c.put_contents.new.thread.kept in
    let only = c.find_at_path.ensures.reading.only in
    let device = c.device-device.result.now in
    let sized = sized_on g.D.BlockDevice device t.kept.disk (g.D.BlockDevice.geometry device).block_count c.device-device.ensures.disk (g.D.BlockDevice.geometry device).valid.no_smaller (g.met.D.BlockDevice.shape device) in
    let w = subst (λ (k : KeptThread). WritesPairAndTwoFree k c.found_file_slot-file.result.spot.pair new) (read_is t.kept mid only) c.put_contents.ensures.device in
    let gives = subst (λ (k : KeptThread). (put : CanPutContents k c.found_file_slot-file.result.spot c.args.contents) → HasStoredContents k new put.can.path put.can.name (writer_contents_bytes k c.args.contents) put.come.gone put.come.come) (read_is t.kept mid only) c.in_ok-put_contents.ensures.stored in
    let k = subst (λ (k : KeptThread). (put : CanPutContents k c.found_file_slot-file.result.spot c.args.contents) → PowerLossLeavesEither k new (tree_with_contents k put.can.path put.can.name (writer_contents_bytes k c.args.contents))) (read_is t.kept mid only) c.put_contents.ensures.survives in
    survives_settled t c.args.root c.requires.rests c.args.path.now c.lemma_block_facts.ensures.large c.lemma_block_facts.ensures.bytes c.args.contents c.requires.can c.found_file_slot-file.result (file_for c.args.thread.now.kept c.args.path.now c.in_ok-target.target.found c.found_file_slot-file.result c.in_ok-target.ensures.target.leads c.found_file_slot-file.ensures) sized mid.history new w gives
    c.replace_used_list.new.thread.kept c.replace_used_list.ensures.only only.reads
    (survives_put t c.args.root c.requires.rests c.args.path.now c.lemma_block_facts.ensures.large c.lemma_block_facts.ensures.bytes c.args.contents c.requires.can c.found_file_slot-file.result (file_for c.args.thread.now.kept c.args.path.now c.in_ok-target.target.found c.found_file_slot-file.result c.in_ok-target.ensures.target.leads c.found_file_slot-file.ensures) sized mid.history new w only.reads k)
