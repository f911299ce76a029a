-- What it makes of a tree to open a file, write bytes and close it, by the definitions alone.
use Rattle.std.proofs.Common.{ℕ, ◌≡◌, ◌+◌, Bool, true, false, ◌&&◌, if◌then◌else◌, List, [], ◌∷◌, ◌++◌, length, take, drop, Option, Some, None, is_none, refl, sym, ap, ◌∙◌, append-nil, arith}
use Rattle.std.specs.Prelude.{◌-◌, nat_lt, replicate}
use Rattle.std.specs.Option.{option_map}
use Rattle.std.proofs.Math.Nat.{le_refl}
use Rattle.std.proofs.Math.Seq.{drop-nil, take-length}
use Rattle.std.proofs.lemmas.Bool.{ltb-false}
use Rattle.std.proofs.lemmas.List.{drop_all, take-append-le}
use Rattle.std.proofs.lemmas.Option.{same_Some}
use Rattle.lfs_model.proofs.Paths.{path_itself}
use Rattle.lfs_model.proofs.Trees.{set_off, change_off}
use Rattle.lfs_model.specs.format.Slots.{Attributes}
use Rattle.lfs_model.specs.tree.Tree.{Path, Node, FileNode, DirectoryNode, Tree}
use Rattle.lfs_model.specs.session.Operations.{FlagsOfOpen}
use Rattle.lfs_model.specs.session.TreeEdits.{same_path, parent_path, is_directory, file_bytes, tree_creating, tree_with_change, node_with_names, names_with, last_name}
use Rattle.lfs_model.specs.session.Session.{FileWriter, Writing}
use Rattle.lfs_model.specs.session.Writers.{opened_writer, writer_after_write}
use Rattle.lfs_model.specs.session.Effects.{tree_after_storing, node_with_bytes}
use Rattle.saved_files.specs.Writing.{bytes_if_file, bytes_after_write, HasBytesAt, SameAtOtherPaths}

-- ---- the open

abbrev pub opened_tree : Path → Tree → Tree
opened_tree p t = if is_none (t p) then tree_creating p (FileNode [] []) t else t

made : (p : Path) (t : Tree) → tree_creating p (FileNode [] []) t p ≡ Some (FileNode [] [])
made p t = rw (path_itself p) refl

-- a node is made at the path
pub created_elsewhere : (p : Path) (node : Node) (t : Tree) → SameAtOtherPaths p t (tree_creating p node t)
created_elsewhere p node t q off above = set_off p (Some node) (tree_with_change (parent_path p) (node_with_names (names_with (last_name p))) t) q off ∙ change_off (parent_path p) (node_with_names (names_with (last_name p))) t q above

pub opened_has : (p : Path) (t : Tree) → HasBytesAt p (file_bytes (t p)) t (opened_tree p t)
opened_has p t = go (t p) refl
  where
    go : (node : Option Node) → t p ≡ node → HasBytesAt p (file_bytes node) t (if is_none node then tree_creating p (FileNode [] []) t else t)
    go None is = record { elsewhere = created_elsewhere p (FileNode [] []) t; has = ap file_bytes (made p t) }
    go (Some node) is = record { elsewhere = λ q off above. refl; has = ap file_bytes is }

-- a file is there
pub record IsFileAt (p : Path) (t : Tree) (bytes : List ℕ) : Type 0 where
  pub attributes : Attributes
  pub is : t p ≡ Some (FileNode attributes bytes)

pub opened_file : (p : Path) (t : Tree) → is_directory (t p) ≡ false → IsFileAt p (opened_tree p t) (file_bytes (t p))
opened_file p t e = go (t p) refl e
  where
    go : (node : Option Node) → t p ≡ node → is_directory node ≡ false → IsFileAt p (if is_none node then tree_creating p (FileNode [] []) t else t) (file_bytes node)
    go None is e = record { attributes = []; is = made p t }
    go (Some (FileNode attributes bytes)) is e = record { attributes = attributes; is = is }
    go (Some (DirectoryNode attributes names)) is e = absurd (cc)

-- ---- the close

-- what a writer that has written is: its path stays, and where nothing is to be stored it has the file's bytes
none_left : (old : List ℕ) → nat_lt 0 (length old) ≡ false → [] ≡ old
none_left [] e = refl
none_left (x ∷ old) e = absurd (let k = ltb-false 0 (length (x ∷ old)) e in omega (arith, k))

record IsWriterAt (p : Path) (old : List ℕ) (w : FileWriter) : Type 0 where
  path : w.path ≡ p
  clean : w.dirty ≡ false → w.contents ≡ old

writer_at : (p : Path) (flags : FlagsOfOpen) (old bytes : List ℕ) → IsWriterAt p old (writer_after_write (opened_writer p flags old) bytes)
writer_at p flags old [] = record { path = refl; clean = go flags.truncate }
  where
    go : (b : Bool) → (b && nat_lt 0 (length old)) ≡ false → (if b then [] else old) ≡ old
    go true e = none_left old e
    go false e = refl
writer_at p flags old (b ∷ bytes) = record { path = refl; clean = λ e. absurd (cc) }

stored_file : (p : Path) (t : Tree) (old : List ℕ) (w : FileWriter) → IsWriterAt p old w → IsFileAt p t old → IsFileAt p (tree_after_storing (Some (Writing w)) t) w.contents
stored_file p t old w at file = go w.dirty refl
  where
    go : (b : Bool) → w.dirty ≡ b → IsFileAt p (if b then tree_with_change w.path (node_with_bytes w.contents) t else t) w.contents
    go true e = record {
      attributes = file.attributes;
      is = ap (λ b. if b then option_map (node_with_bytes w.contents) (t p) else t p) (ap (λ q. same_path q p) at.path ∙ path_itself p) ∙ ap (option_map (node_with_bytes w.contents)) file.is;
    }
    go false e = record { attributes = file.attributes; is = file.is ∙ ap (λ bytes. Some (FileNode file.attributes bytes)) (sym (at.clean e)) }

stored_elsewhere : (p q : Path) (t : Tree) (w : FileWriter) → w.path ≡ p → same_path p q ≡ false → tree_after_storing (Some (Writing w)) t q ≡ t q
stored_elsewhere p q t w is off = go w.dirty
  where
    go : (b : Bool) → (if b then tree_with_change w.path (node_with_bytes w.contents) t else t) q ≡ t q
    go true = change_off w.path (node_with_bytes w.contents) t q (ap (λ p. same_path p q) is ∙ off)
    go false = refl

-- ---- all of it

abbrev pub closed_tree : Path → FlagsOfOpen → List ℕ → Tree → Tree
closed_tree p flags bytes t = tree_after_storing (Some (Writing (writer_after_write (opened_writer p flags (file_bytes (t p))) bytes))) (opened_tree p t)

pub closed_file : (p : Path) (flags : FlagsOfOpen) (bytes : List ℕ) (t : Tree) → is_directory (t p) ≡ false → IsFileAt p (closed_tree p flags bytes t) (bytes_after_write p flags (file_bytes (t p)) bytes)
closed_file p flags bytes t e = stored_file p (opened_tree p t) (file_bytes (t p)) _ (writer_at p flags (file_bytes (t p)) bytes) (opened_file p t e)

pub closed_has : (p : Path) (flags : FlagsOfOpen) (bytes : List ℕ) (t : Tree) → is_directory (t p) ≡ false → HasBytesAt p (bytes_after_write p flags (file_bytes (t p)) bytes) t (closed_tree p flags bytes t)
closed_has p flags bytes t e = record {
  elsewhere = λ q off above. stored_elsewhere p q (opened_tree p t) (writer_after_write (opened_writer p flags (file_bytes (t p))) bytes) (writer_at p flags (file_bytes (t p)) bytes).path off ∙ (opened_has p t).elsewhere q off above;
  has = ap file_bytes (closed_file p flags bytes t e).is;
}

-- ---- the bytes

-- a file that was emptied has what was written
pub emptied_has : (p : Path) (flags : FlagsOfOpen) (old bytes : List ℕ) → flags.truncate ≡ true → flags.append ≡ false → bytes_after_write p flags old bytes ≡ bytes
emptied_has p flags old [] e f = rw e refl
emptied_has p flags old (b ∷ bytes) e f = rw (e, f) (ap (λ rest. (b ∷ bytes) ++ rest) (drop-nil _) ∙ append-nil (b ∷ bytes))

-- a file that is appended to has its old bytes before them
past : (old new padding : List ℕ) → take (length old) (old ++ padding) ++ new ++ drop (length old + length new) old ≡ old ++ new
past old new padding =
    ap (λ first. first ++ new ++ drop (length old + length new) old) (take-append-le (length old) old padding (le_refl (length old)) ∙ take-length old)
    ∙ ap (λ rest. old ++ new ++ rest) (drop_all (length old + length new) old (omega (arith)))
    ∙ append-nil (old ++ new)

pub appended_has : (p : Path) (flags : FlagsOfOpen) (old bytes : List ℕ) → flags.truncate ≡ false → flags.append ≡ true → bytes_after_write p flags old bytes ≡ old ++ bytes
appended_has p flags old [] e f = rw e (sym (append-nil old))
appended_has p flags old (b ∷ bytes) e f = rw (e, f) (past old (b ∷ bytes) (replicate (length old - length old) 0))

pub file_has : (node : Option Node) (bytes : List ℕ) → bytes_if_file node ≡ Some bytes → file_bytes node ≡ bytes
file_has None bytes e = absurd (cc)
file_has (Some (FileNode attributes all)) bytes e = same_Some all bytes e
file_has (Some (DirectoryNode attributes names)) bytes e = absurd (cc)
