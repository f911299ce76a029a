-- Open directories: lists of entries, each with a position.
use Rattle.std.specs.Prelude.{ℕ, ℤ, ◌≡◌, ◌⊎◌, ◌+◌, ◌<◌, ◌≤◌, true, false, Bool, List, [], length, Option, Some, None, Result, Ok, Err, Vec, slice_get, slice_set}
use Rattle.std.specs.Global.{Global}
use Rattle.lfs_device.specs.declared.error.Error.{Error}
use Rattle.lfs_device.specs.declared.error.Error.TheVariants.{BadFile, Invalid, NoMemory}
use Rattle.lfs_model.specs.session.Operations as ops
use Rattle.lfs_lookup.specs.declared.kinds.Kind.{Kind}
use Rattle.lfs_lookup.specs.declared.kinds.Kind.TheVariants as kind
use Rattle.lfs_lookup.specs.declared.kinds.ListItem.{ListItem}
use Rattle.lfs_fs.specs.Replies.{reply_from}
use Rattle.lfs_volume.specs.Calls.{free_entry_index, with_entry}
use Rattle.lfs_volume.specs.Volume.{VolumeView, entry_at}
use Rattle.lfs_volume.specs.VolumeCalls.{IsSessionCall}
use Rattle.littlefs_values.specs.Buffers.{buffer_if_fitting, entries_of_items}
use Rattle.littlefs_c.specs.DirectoryView.{DirectoryView}
use Rattle.littlefs_c.specs.declared.entry_infos.EntryInfo.{EntryInfo}

-- the volume lists a directory, with that result
abbrev pub IsListing : List ℕ → Result (Vec ListItem Global) Error → VolumeView → VolumeView → Type 0
IsListing path r old new = IsSessionCall old (ops.ListAll path) (reply_from (λ (items : Vec ListItem Global). ops.Items (entries_of_items items)) r) new

-- ---- an open

-- a directory that was just opened
abbrev pub opened_directory : List ℕ → List ListItem → DirectoryView
opened_directory path items = record { path = path; items = items; position = 0 }

-- A listing is kept under the least number that is free; or there is none, or memory wasn't granted.
abbrev pub StoresOpenDirectory : List ℕ → Result (Vec ListItem Global) Error → Result ℕ Error → List (Option DirectoryView) → List (Option DirectoryView) → Type 0
StoresOpenDirectory path (Ok items) (Ok n) old new = (n ≡ free_entry_index old) × (new ≡ with_entry old n (Some (opened_directory path items.items)))
StoresOpenDirectory path (Ok items) (Err e) old new = (e ≡ NoMemory) × (new ≡ old)
StoresOpenDirectory path (Err e) (Ok n) old new = ⊥
StoresOpenDirectory path (Err e) (Err e') old new = (e' ≡ e) × (new ≡ old)

-- ---- an entry

abbrev pub kind_number : Kind → ℕ
kind_number kind.File = 1
kind_number kind.Dir = 2

-- what C gets of an entry
abbrev pub entry_info : ListItem → EntryInfo
entry_info item = record { kind = kind_number item.kind; size = item.size; name_len = length item.name.items }

-- C gets the entry at the position, with its name, if that fits, and the position is after it then; or the list ends there.
abbrev pub ReadsNextEntry : DirectoryView → Bool → DirectoryView → EntryInfo → EntryInfo → List ℕ → List ℕ → Type 0
ReadsNextEntry old true new before after name filled =
    (new ≡ record old { position = old.position + 1 }) × ((item : ListItem) × ((slice_get old.items old.position ≡ Some item) × ((after ≡ entry_info item) × (filled ≡ buffer_if_fitting item.name.items name))))
ReadsNextEntry old false new before after name filled = (new ≡ old) × (length old.items ≤ old.position) × (after ≡ before) × (filled ≡ name)

-- ---- by a number

-- no directory has the number, and all stays
abbrev pub HasNoDirectory : ℕ → List (Option DirectoryView) → Error → List (Option DirectoryView) → Type 0
HasNoDirectory number old e new = (e ≡ BadFile) × (entry_at old number ≡ None) × (new ≡ old)

-- the same of the directory with that number
abbrev pub ReadsDirectory : ℕ → Result Bool Error → List (Option DirectoryView) → List (Option DirectoryView) → EntryInfo → EntryInfo → List ℕ → List ℕ → Type 0
ReadsDirectory number (Ok is_there) old new before after name filled =
    (d : DirectoryView) × ((e : DirectoryView) × ((entry_at old number ≡ Some d) × ((new ≡ slice_set old number (Some e)) × ReadsNextEntry d is_there e before after name filled)))
ReadsDirectory number (Err e) old new before after name filled = HasNoDirectory number old e new × (after ≡ before) × (filled ≡ name)

-- its position is set, at most at the end
abbrev pub SeeksDirectory : {X : Type 0} → ℕ → ℕ → Result X Error → List (Option DirectoryView) → List (Option DirectoryView) → Type 0
SeeksDirectory number position (Ok x) old new =
    (d : DirectoryView) × ((entry_at old number ≡ Some d) × ((position ≤ length d.items) × (new ≡ slice_set old number (Some (record d { position = position })))))
SeeksDirectory number position (Err e) old new =
    HasNoDirectory number old e new ⊎ ((e ≡ Invalid) × ((d : DirectoryView) × ((entry_at old number ≡ Some d) × ((length d.items < position) × (new ≡ old)))))

-- its position
abbrev pub ReturnsDirectoryPosition : ℕ → List (Option DirectoryView) → Result ℕ Error → Type 0
ReturnsDirectoryPosition number old (Ok position) = (d : DirectoryView) × ((entry_at old number ≡ Some d) × (position ≡ d.position))
ReturnsDirectoryPosition number old (Err e) = HasNoDirectory number old e old

-- it is closed
abbrev pub ClosesDirectory : {X : Type 0} → ℕ → Result X Error → List (Option DirectoryView) → List (Option DirectoryView) → Type 0
ClosesDirectory number (Ok x) old new = (d : DirectoryView) × ((entry_at old number ≡ Some d) × (new ≡ slice_set old number None))
ClosesDirectory number (Err e) old new = HasNoDirectory number old e new

-- A directory is listed again, by its path, and its position is 0; or it stays, since the volume didn't list it.
abbrev pub RelistsDirectory : {X : Type 0} → VolumeView → DirectoryView → Result X Error → VolumeView → DirectoryView → Type 0
RelistsDirectory old d (Ok x) new e = (items : Vec ListItem Global) × (IsListing d.path (Ok items) old new × (e ≡ opened_directory d.path items.items))
RelistsDirectory old d (Err error) new e = IsListing d.path (Err error) old new × (e ≡ d)

-- no directory has the number: nothing was listed
abbrev pub RewindsNoDirectory : {X : Type 0} → ℕ → Result X Error → List (Option DirectoryView) → List (Option DirectoryView) → Type 0
RewindsNoDirectory number (Ok x) old new = ⊥
RewindsNoDirectory number (Err e) old new = HasNoDirectory number old e new

-- the same of the directory with that number
abbrev pub RewindsDirectory : {X : Type 0} → ℕ → Result X Error → VolumeView → List (Option DirectoryView) → VolumeView → List (Option DirectoryView) → Type 0
RewindsDirectory number r old directories new after =
    ((d : DirectoryView) × ((e : DirectoryView) × ((entry_at directories number ≡ Some d) × ((after ≡ slice_set directories number (Some e)) × RelistsDirectory old d r new e))))
    ⊎ ((new ≡ old) × RewindsNoDirectory number r directories after)
