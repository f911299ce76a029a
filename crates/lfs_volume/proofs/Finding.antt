-- The calls of a session that find a file, and make it where it is to be made.
use Rattle.std.proofs.Common.{inl, inr, ℕ, ◌≡◌, ◌&&◌, nat_lt, Bool, true, false, cond, List, [], length, Option, Some, None, Ok, Err, not, is_none, unwrap_or, refl, sym, ap, ap₂, subst, ◌∙◌}
use Rattle.std.specs.Prelude.{is_err}
use Rattle.std.specs.Option.{option_map}
use Rattle.lfs_device.specs.declared.error.Error.{Error}
use Rattle.lfs_lookup.specs.RefusalErrors as refusals
use Rattle.lfs_model.specs.crash.Frame.{needs_session_alone}
use Rattle.lfs_model.specs.tree.Tree.{FileNode, Node, Path, Tree}
use Rattle.lfs_model.specs.session.Operations as ops
use Rattle.lfs_model.specs.session.Operations.{FlagsOfOpen, Operation, Refusal, Reply}
use Rattle.lfs_model.specs.session.Session.{DiskSummary, FileReader, FileWriter, OpenFile, OpenFilesByNumber, Reading, Session, Writing}
use Rattle.lfs_model.specs.session.Session as model
use Rattle.lfs_model.specs.session.Refusals.{path_or_root}
use Rattle.lfs_model.specs.session.Effects.{node_with_bytes, tree_after_storing}
use Rattle.lfs_model.specs.session.TreeEdits.{file_bytes, last_name, names_with, node_with_names, parent_path, tree_creating, tree_with_change}
use Rattle.lfs_model.specs.session.Writers.{opened_writer}
use Rattle.lfs_model.proofs.Paths.{path_itself}
use Rattle.lfs_tree.specs.TreeState.{visible_tree}
use Rattle.lfs_fs.specs.CallEffects.{IsCall}
use Rattle.lfs_fs.specs.FileAnswers.{IsFileQueryResult, file_size}
use Rattle.lfs_fs.specs.SessionView.{SessionView, viewed_session}
use Rattle.lfs_volume.specs.Opened.{HasOneOpenFile, IsIdleSession, session_with_file}
use Rattle.lfs_volume.specs.Saves.{OpensAndClosesFile, found_tree}
use Rattle.lfs_volume.specs.SessionCalls.{error_result}
use Rattle.lfs_volume.proofs.NodeCalls.{open_when_idle}
use Rattle.lfs_volume.proofs.Saving.{after_call, close_not_refused, opened_first, reply_of}
use Rattle.lfs_volume.proofs.Steps.{done, healthy_view}

abbrev number_of : Reply → ℕ
number_of (ops.Opened n) = n
number_of _ = 0

module _ (old h1 : SessionView) (path : List ℕ) (flags : FlagsOfOpen) (fd : ℕ) (idle : IsIdleSession old (visible_tree old.tree)) (opens : IsCall old (ops.Open path flags) (Ok (ops.Opened fd)) h1) (uncut : flags.truncate ≡ false) where
  abbrev t : Tree
  t = visible_tree old.tree

  abbrev p : Path
  p = path_or_root path

  abbrev opened : OpenFile
  opened = cond flags.write (Writing (opened_writer p flags (file_bytes (t p)))) (Reading (record { path = p; position = 0 }))

  number : fd ≡ 0
  number =
      let d = done old (ops.Open path flags) (ops.Opened fd) h1 refl idle.works refl opens.answers in
      ap number_of (reply_of old (ops.Open path flags) (ops.Opened fd) h1 d (viewed_session old) refl) ∙ (opened_first old.files (Some opened) idle.files).0

  one : HasOneOpenFile h1 (found_tree t p) opened
  one =
      let d = done old (ops.Open path flags) (ops.Opened fd) h1 refl idle.works refl opens.answers in
      record {
        works = d.works;
        is = after_call old (ops.Open path flags) (ops.Opened fd) h1 d (viewed_session old) refl ∙ ap (λ (fs : OpenFilesByNumber). record { tree = found_tree t p; files = fs }) (opened_first old.files (Some opened) idle.files).1;
      }

  clean : (b : Bool) → tree_after_storing (Some (cond b (Writing (opened_writer p flags (file_bytes (t p)))) (Reading (record { path = p; position = 0 })))) (found_tree t p) ≡ found_tree t p
  clean true = ap (λ c. cond (c && nat_lt 0 (length (file_bytes (t p)))) (tree_with_change p (node_with_bytes (cond flags.truncate [] (file_bytes (t p)))) (found_tree t p)) (found_tree t p)) uncut
  clean false = refl

  alone : (b : Bool) → needs_session_alone (session_with_file (found_tree t p) (cond b (Writing (opened_writer p flags (file_bytes (t p)))) (Reading (record { path = p; position = 0 })))) (ops.Close 0) ≡ true
  alone true = ap (λ c. not (c && nat_lt 0 (length (file_bytes (t p))))) uncut
  alone false = refl

  found_bytes : file_bytes (found_tree t p p) ≡ file_bytes (t p)
  found_bytes = go (t p) refl
    where
      go : (o : Option Node) → t p ≡ o → file_bytes (found_tree t p p) ≡ file_bytes (t p)
      go None e =
          ap (λ x. file_bytes ((cond (is_none x) (tree_creating p (FileNode [] []) t) t) p)) e ∙ ap (λ b. file_bytes (cond b (Some (FileNode [] [])) (tree_with_change (parent_path p) (node_with_names (names_with (last_name p))) t p))) (path_itself p) ∙ sym (ap file_bytes e)
      go (Some n) e = ap (λ x. file_bytes ((cond (is_none x) (tree_creating p (FileNode [] []) t) t) p)) e

  shown : visible_tree h1.tree ≡ found_tree t p
  shown = ap (λ (z : Session). z.tree) one.is

  size_of : (b : Bool) → file_size h1 (cond b (Writing (opened_writer p flags (file_bytes (t p)))) (Reading (record { path = p; position = 0 }))) ≡ length (file_bytes (found_tree t p p))
  size_of true = ap (λ c. length (cond c [] (file_bytes (t p)))) uncut ∙ sym (ap length found_bytes)
  size_of false = ap (λ (tr : Tree). length (file_bytes (tr p))) shown

  size_found : (n : ℕ) → IsFileQueryResult file_size h1 fd (Ok n) → n ≡ length (file_bytes (found_tree t p p))
  size_found n answer =
      let files = ap (λ (z : Session). z.files) one.is in
      let e : option_map (file_size h1) (Some opened) ≡ Some n = sym (ap₂ (λ fs k. option_map (file_size h1) (model.file_numbered fs k)) files number) ∙ answer.1 in
      sym (ap (λ (o : Option ℕ). unwrap_or o n) e) ∙ size_of flags.write

  pub size_answers : (e : Error) → IsFileQueryResult file_size h1 fd (Err e) → ⊥
  size_answers e (inl (failed, is)) = absurd (let k : true ≡ false = sym failed ∙ one.works in cc)
  size_answers e (inr (works, none, is)) =
      let files = ap (λ (z : Session). z.files) one.is in
      absurd (let k : Some opened ≡ None = sym (ap₂ (λ fs n. model.file_numbered fs n) files number) ∙ none in cc)

  pub close_answers : (e : Error) (new : SessionView) → IsCall h1 (ops.Close fd) (error_result e) new → ⊥
  close_answers e new close =
      let call = subst (λ z. IsCall h1 (ops.Close z) (error_result e) new) number close in
      let single : needs_session_alone (viewed_session h1) (ops.Close 0) ≡ true = ap (λ s. needs_session_alone s (ops.Close 0)) one.is ∙ alone flags.write in
      go (refusals.is_refusal e) refl (call.ends.answered (viewed_session h1) (healthy_view h1 one.works) single)
    where
      go : (b : Bool) → refusals.is_refusal e ≡ b → is_err {T = Reply} {E = Error} (cond b (Ok (ops.Refused (refusals.error_refusal e))) (Err e)) ≡ false → ⊥
      go true is none = close_not_refused e h1 new (found_tree t p) opened fd one number close is
      go false is none = absurd (cc)

  pub file_found : (n : ℕ) (new : SessionView) → IsFileQueryResult file_size h1 fd (Ok n) → IsCall h1 (ops.Close fd) (Ok ops.Done) new → OpensAndClosesFile old path flags n new
  file_found n new size close =
      let call = subst (λ z. IsCall h1 (ops.Close z) (Ok ops.Done) new) number close in
      let d = done old (ops.Open path flags) (ops.Opened fd) h1 refl idle.works refl opens.answers in
      let e = done h1 (ops.Close 0) ops.Done new refl d.works refl call.answers in
      let after = after_call h1 (ops.Close 0) ops.Done new e (session_with_file (found_tree t p) opened) one.is in
      let tree : visible_tree new.tree ≡ found_tree t p = ap (λ (z : Session). z.tree) after ∙ clean flags.write in
      record {
        around = d.around;
        pairs = d.pairs;
        accepted = d.accepted;
        surrounds = d.surrounds;
        passes = sym (open_when_idle old path flags d.around idle.files) ∙ d.passes;
        size_is = size_found n size;
        idle = record { works = e.works; shows = tree; files = inr (ap (λ (z : Session). z.files) after) };
        between = h1;
        opens = record { reply = ops.Opened fd; accepted = refl; call = opens; other = refl };
        closes = record { reply = ops.Done; accepted = refl; call = call; other = refl };
        kept = tree ∙ sym shown;
      }
