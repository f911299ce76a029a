-- What the operations of entries make of a session, where each is accepted.
use Rattle.std.proofs.Common.{ℕ, ◌≡◌, ◌∙◌, ◌+◌, ◌++◌, Bool, true, false, cond, List, [], ◌∷◌, length, Option, Some, None, drop, is_none, refl, sym, ap, ap₂, subst, append-nil, flat_map, option_map}
use Rattle.std.proofs.Math.Seq.{drop-nil}
use Rattle.lfs_tool_run.proofs.Common.{same_Some, tree_creating, same_path, new_flags, node_copy_operations, Operation, Reply, Session, DiskSummary, path_or_root, Healthy, SessionHealth, Path, FileNode, DirectoryNode, Tree, IsStep, SystemState, is_refusal, session_after_all, Each, optional_bytes_view, node_of_optional_bytes, entry_operations}
use Rattle.lfs_model.specs.session.TreeEdits.{file_bytes, tree_with_change}
use Rattle.lfs_model.specs.session.Operations as ops
use Rattle.lfs_model.specs.session.Operations.{Refusal}
use Rattle.lfs_model.specs.session.Session.{OpenFilesByNumber, FileWriter, Writing, free_number_of}
use Rattle.lfs_model.specs.session.Writers.{writer_after_write, opened_writer}
use Rattle.lfs_model.specs.session.Effects.{operation_result, tree_after_storing, operation_effect, unless_refused, node_with_bytes}
use Rattle.lfs_model.specs.session.Refusals.{operation_refusal}
use Rattle.lfs_model.specs.session.State.{nonremount_result}
use Rattle.lfs_model.specs.session.Run.{AreSteps}
use Rattle.lfs_tool.specs.declared.entries.SourceEntry.{SourceEntry}
use Rattle.lfs_tool_run.specs.AppliedOperations.{AllFilesClosed}
use Rattle.lfs_tool_run.proofs.Growing.{AreNew, grown, tree_after}

pub first_is_free : (files : OpenFilesByNumber) → AllFilesClosed files → free_number_of files ≡ 0
first_is_free [] h = refl
first_is_free (None ∷ []) h = refl
first_is_free (None ∷ f ∷ fs) h = absurd h
first_is_free (Some o ∷ fs) h = absurd h

abbrev with_files : Tree → OpenFilesByNumber → Session
with_files t files = record { tree = t; files = files }

abbrev Accepted : List Reply → Type 0
Accepted replies = Each (λ r. is_refusal r ≡ false) replies

-- ---- a file

abbrev opened : Tree → Path → FileWriter
opened t p = opened_writer p new_flags (file_bytes (t p))

-- the tree once the file is there, and once its bytes are
abbrev tree_opened : Tree → Path → Tree
tree_opened t p = cond (is_none (t p)) (tree_creating p (FileNode [] []) t) t

abbrev tree_closed : Tree → Path → List ℕ → Tree
tree_closed t p bytes = tree_after_storing (Some (Writing (writer_after_write (opened t p) bytes))) (tree_opened t p)

changed_added : (p : Path) (bytes : List ℕ) (t : Tree) → tree_with_change p (node_with_bytes bytes) (tree_creating p (FileNode [] []) t) ≡ tree_creating p (FileNode [] bytes) t
changed_added p bytes t = λ i q. at q i
  where
    at : (q : Path) → tree_with_change p (node_with_bytes bytes) (tree_creating p (FileNode [] []) t) q ≡ tree_creating p (FileNode [] bytes) t q
    at q = go (same_path p q) _
      where
        go : (b : Bool) (rest : Option _) → cond b (option_map (node_with_bytes bytes) (cond b (Some (FileNode [] [])) rest)) (cond b (Some (FileNode [] [])) rest) ≡ cond b (Some (FileNode [] bytes)) rest
        go true rest = refl
        go false rest = refl

file_comes : (t : Tree) (p : Path) (bytes : List ℕ) → t p ≡ None → tree_closed t p bytes ≡ tree_creating p (FileNode [] bytes) t
file_comes t p [] e = ap (λ o. cond (is_none o) (tree_creating p (FileNode [] []) t) t) e
file_comes t p (b ∷ bytes) e =
    ap₂ (λ c (u : Tree). tree_with_change p (node_with_bytes c) u) all (ap (λ o. cond (is_none o) (tree_creating p (FileNode [] []) t) t) e) ∙ changed_added p (b ∷ bytes) t
  where
    all : (writer_after_write (opened t p) (b ∷ bytes)).contents ≡ b ∷ bytes
    all = ap (λ o. b ∷ (bytes ++ drop (0 + length (b ∷ bytes)) (file_bytes o))) e ∙ ap (λ xs. b ∷ (bytes ++ xs)) (drop-nil (0 + length (b ∷ bytes))) ∙ ap (λ xs. b ∷ xs) (append-nil bytes)

-- ---- an entry

-- The operations of an entry are done, and more follow.
record HasStepped (around : DiskSummary) (path : List ℕ) (o : Option (List ℕ)) (more : List Operation) (t : Tree) (files : OpenFilesByNumber) (replies : List Reply) (to : SystemState) : Type 0 where
  tree : Tree
  left_open : OpenFilesByNumber
  left : List Reply
  between : SystemState
  session_steps : AreSteps between more left to
  accepted : Accepted left
  closed : AllFilesClosed left_open
  is : session_after_all around (with_files t files) (node_copy_operations path (node_of_optional_bytes o) ++ more) replies ≡ session_after_all around (with_files tree left_open) more left
  comes : t (path_or_root path) ≡ None → tree ≡ tree_creating (path_or_root path) (node_of_optional_bytes o) t

-- an accepted operation has its effect
accepted_effect : (around : DiskSummary) (s : Session) (op : Operation) (reply : Reply) (more : List Operation) (left : List Reply) → is_refusal reply ≡ false
    → session_after_all around (cond (is_refusal reply) s (operation_effect around s op).1) more left ≡ session_after_all around (operation_effect around s op).1 more left
accepted_effect around s op reply more left e = ap (λ b. session_after_all around (cond b s (operation_effect around s op).1) more left) e

folder_stepped : (around : DiskSummary) (path : List ℕ) (more : List Operation) (t : Tree) (files : OpenFilesByNumber) (replies : List Reply) (from to : SystemState) → AllFilesClosed files → Accepted replies
    → AreSteps from (ops.Mkdir path ∷ more) replies to → HasStepped around path None more t files replies to
folder_stepped around path more t files [] from to closed accepted h = absurd h
folder_stepped around path more t files (reply ∷ left) from to closed accepted (between, (turn, rest)) = record {
  tree = tree_creating (path_or_root path) (DirectoryNode [] []) t;
  left_open = files;
  left = left;
  between = between;
  session_steps = rest;
  accepted = accepted.1;
  closed = closed;
  is = accepted_effect around (with_files t files) (ops.Mkdir path) reply more left accepted.0;
  comes = λ e. refl;
}

abbrev file_effect : DiskSummary → List ℕ → List ℕ → Session → Session
file_effect around path bytes s =
    (operation_effect around (operation_effect around (operation_effect around s (ops.Open path new_flags)).1 (ops.Write 0 bytes)).1 (ops.Close 0)).1

file_effect_is : (around : DiskSummary) (path bytes : List ℕ) (t : Tree) (files : OpenFilesByNumber) → AllFilesClosed files → file_effect around path bytes (with_files t files) ≡ with_files (tree_closed t (path_or_root path) bytes) (None ∷ [])
file_effect_is around path bytes t [] h = refl
file_effect_is around path bytes t (None ∷ []) h = refl
file_effect_is around path bytes t (None ∷ f ∷ fs) h = absurd h
file_effect_is around path bytes t (Some o ∷ fs) h = absurd h

file_stepped : (around : DiskSummary) (path bytes : List ℕ) (more : List Operation) (t : Tree) (files : OpenFilesByNumber) (replies : List Reply) (from to : SystemState) → AllFilesClosed files → Accepted replies
    → AreSteps from (ops.Open path new_flags ∷ ops.Write 0 bytes ∷ ops.Close 0 ∷ more) replies to → HasStepped around path (Some bytes) more t files replies to
file_stepped around path bytes more t files [] from to closed accepted h = absurd h
file_stepped around path bytes more t files (a ∷ []) from to closed accepted (one, (turn, h)) = absurd h
file_stepped around path bytes more t files (a ∷ b ∷ []) from to closed accepted (one, (turn, (two, (next, h)))) = absurd h
file_stepped around path bytes more t files (a ∷ b ∷ c ∷ left) from to closed accepted (one, (turn, (two, (next, (three, (last, rest)))))) =
    let s = with_files t files in
    let s1 = (operation_effect around s (ops.Open path new_flags)).1 in
    let s2 = (operation_effect around s1 (ops.Write 0 bytes)).1 in
    record {
      tree = tree_closed t (path_or_root path) bytes;
      left_open = None ∷ [];
      left = left;
      between = three;
      session_steps = rest;
      accepted = accepted.1.1.1;
      closed = tt;
      is = accepted_effect around s (ops.Open path new_flags) a (ops.Write 0 bytes ∷ ops.Close 0 ∷ more) (b ∷ c ∷ left) accepted.0
          ∙ accepted_effect around s1 (ops.Write 0 bytes) b (ops.Close 0 ∷ more) (c ∷ left) accepted.1.0
          ∙ accepted_effect around s2 (ops.Close 0) c more left accepted.1.1.0
          ∙ ap (λ z. session_after_all around z more left) (file_effect_is around path bytes t files closed);
      comes = file_comes t (path_or_root path) bytes;
    }

stepped : (around : DiskSummary) (path : List ℕ) (o : Option (List ℕ)) (more : List Operation) (t : Tree) (files : OpenFilesByNumber) (replies : List Reply) (from to : SystemState) → AllFilesClosed files → Accepted replies
    → AreSteps from (node_copy_operations path (node_of_optional_bytes o) ++ more) replies to → HasStepped around path o more t files replies to
stepped around path None more = folder_stepped around path more
stepped around path (Some bytes) more = file_stepped around path bytes more

-- ---- entries in turn

pub record HasCarried (s : Session) (es : List SourceEntry) (t : Tree) : Type 0 where
  pub closed : AllFilesClosed s.files
  pub tree : AreNew es t → s.tree ≡ tree_after es t

pub carried_from : (around : DiskSummary) (es : List SourceEntry) (t : Tree) (files : OpenFilesByNumber) (replies : List Reply) (from to : SystemState) → AllFilesClosed files → Accepted replies
    → AreSteps from (flat_map entry_operations es) replies to → HasCarried (session_after_all around (with_files t files) (flat_map entry_operations es) replies) es t
carried_from around [] t files [] from to closed accepted h = record { closed = closed; tree = λ e. refl }
carried_from around [] t files (reply ∷ replies) from to closed accepted h = absurd h
carried_from around (e ∷ es) t files replies from to closed accepted h =
    let k = stepped around e.path.items (optional_bytes_view e.bytes) (flat_map entry_operations es) t files replies from to closed accepted h in
    let c = carried_from around es k.tree k.left_open k.left k.between to k.closed k.accepted k.session_steps in
    record {
      closed = subst (λ (s : Session). AllFilesClosed s.files) (sym k.is) c.closed;
      tree = λ new.
          let one : k.tree ≡ grown e t = k.comes new.0 in
          ap (λ (s : Session). s.tree) k.is ∙ c.tree (subst (AreNew es) (sym one) new.1) ∙ ap (tree_after es) one;
    }

-- ---- the number of the file

number_in : (around : DiskSummary) (s : Session) (path : List ℕ) (fd : ℕ) (r : Option Refusal) → (unless_refused r s (operation_effect around s (ops.Open path new_flags))).0 ≡ ops.Opened fd → free_number_of s.files ≡ fd
number_in around s path fd None e = ap number e
  where
    number : Reply → ℕ
    number (ops.Opened n) = n
    number _ = 0
number_in around s path fd (Some error) e = absurd (cc)

pub opened_first : (from to : SystemState) (s : Session) (path : List ℕ) (fd : ℕ) → from.state ≡ Healthy s → AllFilesClosed s.files → IsStep from (ops.Open path new_flags) (ops.Opened fd) to → fd ≡ 0
opened_first from to s path fd state closed turn =
    let a = turn.answered in
    let e : nonremount_result a.around (Healthy s) (ops.Open path new_flags) ≡ (Some (ops.Opened fd), to.state) = ap (λ z. nonremount_result a.around z (ops.Open path new_flags)) (sym state) ∙ a.answers in
    let reply : (operation_result a.around s (ops.Open path new_flags)).0 ≡ ops.Opened fd = same_Some _ _ (ap (λ (z : Option Reply × SessionHealth). z.0) e) in
    sym (number_in a.around s path fd (operation_refusal a.around s (ops.Open path new_flags)) reply) ∙ first_is_free s.files closed
