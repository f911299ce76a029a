use Rattle.std.proofs.Common.{ℕ, ◌≡◌, Bool, true, false, cond, ◌&&◌, List, [], ◌∷◌, Option, Some, None, refl, sym, ap, ◌∙◌, option_map, option_and_then}
use Rattle.std.specs.Prelude.{codes}
use Rattle.lfs_model.proofs.Common.{Disk, same_name, Slot, Struct, Inline, Ctz, Path, slot_at_path, same_path, all_entries, file_slot, struct_at, KeepsOtherStructs, root_with_file, writer_session}
use Rattle.lfs_model.specs.session.Operations as ops
use Rattle.lfs_model.proofs.Paths.{Names, alike, unlike, names, same_itself}
use Rattle.lfs_model.proofs.slots.other_files_keep_their_structs.Goals as goal

-- what the file's slot leads on to
abbrev below : List ℕ → Path → Bool → Option Struct
below bytes r b = option_map (λ (u : Slot). u.struct)
    (option_and_then (λ c. slot_at_path (all_entries (root_with_file (codes "a") bytes)) c r) (cond b (Some (record (file_slot (codes "a")) { struct = Inline bytes })) None))

committed : (disk : Disk) → KeepsOtherStructs disk (root_with_file (codes "a") []) (writer_session (codes "a" ∷ []) true (codes "hi")) (ops.Sync 0) (root_with_file (codes "a") (codes "hi"))
committed disk [] file off elsewhere = absurd (cc)
committed disk (n ∷ r) file off elsewhere = go (names n (codes "a")) r elsewhere
  where
    go : Names n (codes "a") → (r : Path) → (same_name (codes "a") n && same_path [] r) ≡ false → struct_at (root_with_file (codes "a") (codes "hi")) (n ∷ r) ≡ struct_at (root_with_file (codes "a") []) (n ∷ r)
    go (unlike ne e) r h = ap (below (codes "hi") r) e ∙ sym (ap (below [] r) e)
    go (alike f e) [] h = absurd (let k = sym (ap (λ z. same_name (codes "a") z && true) f ∙ ap (λ b. b && true) (same_itself (codes "a"))) ∙ h in cc)
    go (alike f e) (m ∷ r) h = ap (below (codes "hi") (m ∷ r)) e ∙ sym (ap (below [] (m ∷ r)) e)

pub returns-clause-committed : goal.returns-clause-committed
returns-clause-committed c = committed

abbrev mark_of : Option Struct → ℕ
mark_of (Some (Inline (b ∷ bytes))) = 1
mark_of (Some (Ctz head size)) = head
mark_of _ = 0

pub returns-clause-changed : goal.returns-clause-changed
returns-clause-changed c = λ disk h. absurd (let e : 1 ≡ 0 = ap mark_of (h (codes "a" ∷ []) refl refl refl) in cc)

pub returns-clause-other_list : goal.returns-clause-other_list
returns-clause-other_list c = λ disk h. absurd (let e : 9 ≡ 8 = ap mark_of (h (codes "d" ∷ codes "a" ∷ []) refl refl refl) in cc)
