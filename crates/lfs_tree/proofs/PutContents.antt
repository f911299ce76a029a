-- Contents that are committed to a file's slot.
use Rattle.std.proofs.Common.{ℕ, ◌≡◌, ◌≤◌, ◌+◌, ◌/◌, ◌∙◌, ne_eqb, true, List, [], ◌∷◌, ◌++◌, length, min, None, Result, Ok, Err, refl, sym, ap, subst, arith}
use Rattle.lfs_tree.proofs.Common.{min-le_right, GrowingList, is_file, decoded_struct, inline_limit, slot_of_path, Struct, Inline, Path, struct_directory_address, IsWellFormedList, struct_blocks, disk_tree, occurrence_count, AreContentsOnDisk, ThreadReportsFaults, editable_slot, HasFreeBlocks, HasStoredContents, KeptThread, ThreadView, IsStorageOfStruct, writer_contents_bytes, IsResultOfPath, CanPutContents, IsPathFile, IsFinishedForm, list_in_struct, list_in_storage, finished_struct, directory_at_path, contents_form}
use Rattle.std.specs.Prelude.{OnOk}
use Rattle.lfs_file.specs.Growing.{IsAllBuffered}
use Rattle.lfs_device.specs.declared.error.Error.{Error}
use Rattle.lfs_model.specs.layers.Changes.{PutStruct}
use Rattle.lfs_model.specs.format.EntryTypes.{ctz_struct_type, inline_struct_type}
use Rattle.lfs_model.specs.layers.LoggedContent.{IsNameOrStruct}
use Rattle.lfs_model.specs.session.Operations as ops
use Rattle.lfs_model.specs.session.SlotEdits.{IsStructOfBytes}
use Rattle.lfs_model.specs.layers.WrittenContent.{address_bytes}
use Rattle.lfs_model.proofs.WrittenAnew.{tag_type-make_tag, tag_length-make_tag}
use Rattle.lfs_operations.specs.Changing.{ReportsCommitOrSplit}
use Rattle.lfs_operations.specs.Storing.{CanSetStruct}
use Rattle.lfs_tree.specs.Stores.{IsFoundFile, is_file_found}
use Rattle.lfs_lookup.specs.declared.entry.FileStorage.{FileStorage}
use Rattle.lfs_lookup.specs.declared.entry.FileStorage.TheVariants as entry
use Rattle.lfs_lookup.specs.declared.paths.PathLookup.{PathLookup}
use Rattle.lfs_lookup.specs.declared.paths.PathLookup.TheVariants as found
use Rattle.lfs_lookup.specs.declared.search.SlotPosition.{SlotPosition}
use Rattle.lfs_tree.specs.declared.contents_at.FileSlot.{FileSlot}
use Rattle.lfs_lookup.proofs.AtPaths.{nothing_at, refused_none}
use Rattle.lfs_tree.proofs.ReportedFaults.{reported_with_room}
use Rattle.lfs_file.specs.Contents.{buffered_bytes}
use Rattle.lfs_file.specs.declared.contents.WriterContents.{WriterContents}
use Rattle.lfs_file.specs.declared.contents.WriterContents.TheVariants.{InMemory}

-- ---- the slot of a file

pub file_found : (t : KeptThread) (path : Path) (f : PathLookup) → is_file (disk_tree t.disk t.pairs path) ≡ true → IsResultOfPath t path f → is_file_found f ≡ true
file_found t path found.Root file l = let k = sym file ∙ ap (λ p. is_file (disk_tree t.disk t.pairs p)) l.there in absurd (cc)
file_found t path found.ParentIsFile file l = let k = sym file ∙ ap is_file (nothing_at t.disk t.pairs path (refused_none t.disk t.pairs path [] ops.NotDir l.parents)) in absurd (cc)
file_found t path found.ParentIsMissing file l = let k = sym file ∙ ap is_file (nothing_at t.disk t.pairs path (refused_none t.disk t.pairs path [] ops.NoEnt l.parents)) in absurd (cc)
file_found t path (found.Nothing parent place) file l = let k = sym file ∙ ap is_file (nothing_at t.disk t.pairs path (ap (slot_of_path t.pairs) l.there.is ∙ l.there.there.nothing)) in absurd (cc)
file_found t path (found.Directory parent slot first) file l =
    let on = l.there.there.1 in
    let k = sym file ∙ ap (λ p. is_file (disk_tree t.disk t.pairs p)) l.there.is ∙ ap is_file (directory_at_path t.disk t.pairs (l.there.above ++ l.there.name ∷ []) on.at on.leads).is in absurd (cc)
file_found t path (found.File parent slot contents) file l = refl

shown_leaf : (contents : FileStorage) (s : Struct) → IsStorageOfStruct contents s → struct_directory_address s ≡ None
shown_leaf (entry.Inline len) s k = ap struct_directory_address k.1.0
shown_leaf (entry.List head size) s k = ap struct_directory_address k

shown_list : (contents : FileStorage) (s : Struct) → IsStorageOfStruct contents s → list_in_storage contents ≡ list_in_struct s
shown_list (entry.Inline len) s k = sym (ap list_in_struct k.1.0)
shown_list (entry.List head size) s k = sym (ap list_in_struct k)

pub file_for : (t : KeptThread) (path : Path) (f : PathLookup) (file : FileSlot) → IsResultOfPath t path f → IsFoundFile f file → IsPathFile t.pairs path file
file_for t path found.Root file l h = absurd h
file_for t path found.ParentIsFile file l h = absurd h
file_for t path found.ParentIsMissing file l h = absurd h
file_for t path (found.Nothing parent place) file l h = absurd h
file_for t path (found.Directory parent slot first) file l h = absurd h
file_for t path (found.File parent slot contents) file l h =
    let there = l.there.there in
    let same : (let x : FileSlot = record { spot = slot; list = list_in_storage contents } in x) ≡ file = λ i. record { spot = sym h.0 i; list = sym h.1 i } in
    subst (IsPathFile t.pairs path) same
    (record {
      slot = record { above = l.there.above; name = l.there.name; first = parent; is = l.there.is; stands = there.0 };
      leaf = shown_leaf contents there.0.stands.stands.slot.struct there.1;
      list = shown_list contents there.0.stands.stands.slot.struct there.1;
    })

-- ---- the new struct

module _ (t : KeptThread) (spot : SlotPosition) (contents : WriterContents) (can : CanPutContents t spot contents) (kind : ℕ) (bytes : List ℕ) (part : IsNameOrStruct 2 (kind, bytes)) (is : decoded_struct kind bytes ≡ finished_struct contents) where
  abbrev pub store_of : CanSetStruct t spot.pair spot.id kind bytes
  store_of = record {
    can = can.can;
    file = can.leaf;
    part = part;
    contents = writer_contents_bytes t contents;
    stores = subst (IsStructOfBytes t.disk (writer_contents_bytes t contents)) (sym is) can.come.stores;
    list = subst (IsWellFormedList t.disk) (sym is) can.come.list;
    gone = can.come.gone;
    come = can.come.come;
    flying = can.come.flying;
    apart = can.come.apart;
    blocks = λ b. subst (λ (z : Struct). occurrence_count b (struct_blocks t.disk z) + occurrence_count b can.come.gone ≡ occurrence_count b can.come.come + occurrence_count b (struct_blocks t.disk (editable_slot can.can).struct)) (sym is) (can.come.blocks b);
  }

pub stored_from : (t new : KeptThread) (spot : SlotPosition) (contents : WriterContents) (kind : ℕ) (bytes : List ℕ) → IsNameOrStruct 2 (kind, bytes) → decoded_struct kind bytes ≡ finished_struct contents → (r : Result (Unit {0}) Error)
    → OnOk r ((store : CanSetStruct t spot.pair spot.id kind bytes) → HasStoredContents t new store.can.path store.can.name store.contents store.gone store.come)
    → OnOk r ((can : CanPutContents t spot contents) → HasStoredContents t new can.can.path can.can.name (writer_contents_bytes t contents) can.come.gone can.come.come)
stored_from t new spot contents kind bytes part is (Err e) h = tt
stored_from t new spot contents kind bytes part is (Ok u) h = λ can. h (store_of t spot contents can kind bytes part is)

-- ---- its bytes

pub inline_part : (bytes : List ℕ) → length bytes ≤ 1022 → IsNameOrStruct 2 (inline_struct_type, bytes)
inline_part bytes short = record {
  of_class = refl;
  short = omega arith;
  in_table =
      let kind = tag_type-make_tag inline_struct_type 0 (length bytes) (omega arith) (omega arith) (omega arith) in
      let len = tag_length-make_tag inline_struct_type 0 (length bytes) (omega arith) in
      rw len (rw kind (rw (ne_eqb (length bytes) 0x3ff (λ e. omega arith)) refl));
}

pub list_part : (head size : ℕ) (bytes : List ℕ) → bytes ≡ address_bytes (head, size) → IsNameOrStruct 2 (ctz_struct_type, bytes)
list_part head size bytes e = subst (λ b. IsNameOrStruct 2 (ctz_struct_type, b)) (sym e) (record { of_class = refl; short = omega arith; in_table = refl })

module _ (t : KeptThread) (spot : SlotPosition) (contents : WriterContents) (list : GrowingList) (can : CanPutContents t spot contents) (is : contents ≡ InMemory list) where
  pub held_there : IsAllBuffered list
  held_there = (subst (AreContentsOnDisk t) is can.stands).stands.resting.held

  pub held_part : (bytes : List ℕ) → bytes ≡ buffered_bytes list → IsNameOrStruct 2 (inline_struct_type, bytes)
  held_part bytes e =
      let few = subst (λ (c : WriterContents). IsFinishedForm (inline_limit t.disk.profile t.disk.block_size) (contents_form c)) is can.finished in
      let m = min-le_right (t.disk.block_size / 8) 1022 in
      let n = min-le_right t.disk.profile.inline_max (min (t.disk.block_size / 8) 1022) in
      let l = ap length e in
      inline_part bytes (omega arith)

pub held_struct : (contents : WriterContents) (list : GrowingList) (bytes : List ℕ) → contents ≡ InMemory list → bytes ≡ buffered_bytes list → decoded_struct inline_struct_type bytes ≡ finished_struct contents
held_struct contents list bytes is e = ap (λ b. Inline b) e ∙ sym (ap finished_struct is)

-- ---- errors

pub reports_put : (old new : ThreadView) (pair : ℕ) (id kind : ℕ) (bytes : List ℕ) (r : Result (Unit {0}) Error) → HasFreeBlocks 2 old.kept.map → ReportsCommitOrSplit old new pair (PutStruct id kind bytes ∷ []) r → ThreadReportsFaults old.kept new.kept r
reports_put old new pair id kind bytes r room reports =
    let t = reported_with_room old.kept new.kept r room reports.reports.reports in
    record { errors = t.errors; fault = t.fault; no_fault = t.no_fault }
