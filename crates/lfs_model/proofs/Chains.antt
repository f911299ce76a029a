-- The chain of a block, step by step.
use Rattle.std.proofs.Common.{◌≡◌, ℕ, zero, suc, ◌+◌, ◌-◌, ◌^◌, ◌<◌, ◌≤◌, Bool, true, false, ◌||◌, cond, ltb, leb, List, [], ◌∷◌, length, take, drop, Option, Some, None, refl, sym, ap, subst, ◌∙◌, arith}
use Rattle.lfs_model.proofs.Common.{option_map, option_and_then, ltb-false, nat_tests, length-take, length-drop, tag_data_size, LogEntry, entry_end, is_checksum_entry, CommitSequence, with_entry, commit_at, IsCommit, AreAdjacentCommits}
use Rattle.std.proofs.lemmas.Option.{cond_some}
use Rattle.lfs_model.specs.format.Tag.{tag_for_next_xor}
use Rattle.lfs_model.specs.format.Log.{tag_at, entry_at, closes, Commit, with_commit, bounded_commit_at, sequence_or_empty, bounded_commit_sequence, longest_sequence}

-- where a commit ends, and what its last tag carries
abbrev pub stop : Commit → ℕ × ℕ
stop c = (c.end, c.last)

-- ---- entries

pub record Lies (block : List ℕ) (at before : ℕ) (e : LogEntry) : Type 0 where
  pub tag : e.tag ≡ tag_at block at before
  pub valid : e.tag < 2 ^ 31
  pub size : length e.bytes ≡ tag_data_size e.tag
  pub within : at + 4 + length e.bytes ≤ length block
  pub bytes : e.bytes ≡ take (tag_data_size e.tag) (drop (at + 4) block)

chosen : (a b c : Bool) (x e : LogEntry) → cond (a || (b || c)) None (Some x) ≡ Some e → (a ≡ false) × (b ≡ false) × (c ≡ false) × (x ≡ e)
chosen true b c x e h = absurd cc
chosen false true c x e h = absurd cc
chosen false false true x e h = absurd cc
chosen false false false x e h = (refl, refl, refl, cc)

pub lies : (block : List ℕ) (at before : ℕ) (e : LogEntry) → entry_at block at before ≡ Some e → Lies block at before e
unfolding entry_at
lies block at before e h =
    let t = tag_at block at before in
    let x : LogEntry = record { tag = t; bytes = take (tag_data_size t) (drop (at + 4) block) } in
    let c = chosen (ltb (length block) (at + 4)) (leb (2 ^ 31) t) (ltb (length block) (at + 4 + tag_data_size t)) x e h in
    let first : at + 4 ≤ length block = ltb-false _ _ c.0 in
    let last : at + 4 + tag_data_size t ≤ length block = ltb-false _ _ c.2 in
    let size : length x.bytes ≡ tag_data_size t = omega (arith, length-take (tag_data_size t) (drop (at + 4) block), length-drop (at + 4) block) in
    let here : Lies block at before x = record {
      tag = refl;
      valid = grind (arith, nat_tests, c.1);
      size = size;
      within = omega (arith, size, last);
      bytes = refl;
    } in
    subst (Lies block at before) c.3 here

-- ---- how many entries are looked at makes no difference

no_entry : (block : List ℕ) (at before : ℕ) → length block ≤ at → entry_at block at before ≡ None
unfolding entry_at
no_entry block at before le = let short : ltb (length block) (at + 4) ≡ true = grind (arith, nat_tests) in rw short refl

commit_fuel : (n m : ℕ) (block : List ℕ) (start at before : ℕ) → length block - at ≤ n → length block - at ≤ m → bounded_commit_at n block start at before ≡ bounded_commit_at m block start at before
unfolding bounded_commit_at
commit_fuel zero zero block start at before p q = refl
commit_fuel zero (suc m) block start at before p q = rw (no_entry block at before (omega arith)) refl
commit_fuel (suc n) zero block start at before p q = rw (no_entry block at before (omega arith)) refl
commit_fuel (suc n) (suc m) block start at before p q =
    elim (entry_at block at before) as (λ o. entry_at block at before ≡ o → step o n ≡ step o m) [
      | None ↦ λ is. refl
      | Some e ↦ λ is.
          let l = lies block at before e is in
          ap (λ (o : Option Commit). cond (is_checksum_entry e) (cond (closes block start at e) (Some (record { entries = e ∷ []; end = entry_end at e; last = tag_for_next_xor e.tag })) None) (option_map (with_entry e) o))
          (commit_fuel n m block start (entry_end at e) e.tag (omega (arith, l.within)) (omega (arith, l.within)))
    ] refl
  where
    step : Option LogEntry → ℕ → Option Commit
    step o k = option_and_then (λ e. cond (is_checksum_entry e) (cond (closes block start at e) (Some (record { entries = e ∷ []; end = entry_end at e; last = tag_for_next_xor e.tag })) None) (option_map (with_entry e) (bounded_commit_at k block start (entry_end at e) e.tag))) o

commit_more : (block : List ℕ) (start at before : ℕ) → commit_at block start at before ≡ bounded_commit_at (suc (length block - at)) block start at before
commit_more block start at before = commit_fuel (length block - at) (suc (length block - at)) block start at before (omega arith) (omega arith)

pub commit_none : (block : List ℕ) (start at before : ℕ) → entry_at block at before ≡ None → commit_at block start at before ≡ None
unfolding bounded_commit_at
commit_none block start at before is = commit_more block start at before ∙ rw is refl

pub commit_closed : (block : List ℕ) (start at before : ℕ) (e : LogEntry) → entry_at block at before ≡ Some e → is_checksum_entry e ≡ true → closes block start at e ≡ true
    → commit_at block start at before ≡ Some (record { entries = e ∷ []; end = entry_end at e; last = tag_for_next_xor e.tag })
unfolding bounded_commit_at
commit_closed block start at before e is sum right = commit_more block start at before ∙ rw (is, sum, right) refl

pub commit_refused : (block : List ℕ) (start at before : ℕ) (e : LogEntry) → entry_at block at before ≡ Some e → is_checksum_entry e ≡ true → closes block start at e ≡ false
    → commit_at block start at before ≡ None
unfolding bounded_commit_at
commit_refused block start at before e is sum wrong = commit_more block start at before ∙ rw (is, sum, wrong) refl

pub commit_on : (block : List ℕ) (start at before : ℕ) (e : LogEntry) → entry_at block at before ≡ Some e → is_checksum_entry e ≡ false
    → commit_at block start at before ≡ option_map (with_entry e) (commit_at block start (entry_end at e) e.tag)
unfolding bounded_commit_at
commit_on block start at before e is other =
    let l = lies block at before e is in
    commit_more block start at before ∙ rw (is, other) (ap (option_map (with_entry e)) (commit_fuel (length block - at) (length block - entry_end at e) block start (entry_end at e) e.tag (omega (arith, l.within)) (omega arith)))

pub stop-with : (e : LogEntry) (o : Option Commit) → option_map stop (option_map (with_entry e) o) ≡ option_map stop o
stop-with e None = refl
stop-with e (Some c) = refl

-- ---- what is computed is a commit, and each commit is computed

commit-more : (block : List ℕ) (start at before : ℕ) (e : LogEntry) (es : List LogEntry) (end last : ℕ) → entry_at block at before ≡ Some e → is_checksum_entry e ≡ false
    → IsCommit block start (entry_end at e) e.tag es end last → IsCommit block start at before (e ∷ es) end last
commit-more block start at before e [] end last is other rest = absurd rest
commit-more block start at before e (f ∷ es) end last is other rest = (is, other, rest)

abbrev IsCommitOf : List ℕ → ℕ → ℕ → ℕ → Commit → Type 0
IsCommitOf block start at before c = IsCommit block start at before c.entries c.end c.last

pub commit_sound : (n : ℕ) (block : List ℕ) (start at before : ℕ) (c : Commit) → bounded_commit_at n block start at before ≡ Some c → IsCommitOf block start at before c
unfolding bounded_commit_at
commit_sound zero block start at before c h = absurd cc
commit_sound (suc n) block start at before c h =
    elim (entry_at block at before) as (λ o. entry_at block at before ≡ o → step o n ≡ Some c → IsCommitOf block start at before c) [
      | None ↦ λ is h. absurd cc
      | Some e ↦ λ is h.
          elim (is_checksum_entry e) as (λ b. is_checksum_entry e ≡ b → cond b (cond (closes block start at e) (Some (record { entries = e ∷ []; end = entry_end at e; last = tag_for_next_xor e.tag })) None) (option_map (with_entry e) (bounded_commit_at n block start (entry_end at e) e.tag)) ≡ Some c → IsCommitOf block start at before c) [
            | true ↦ λ sum h.
                let right = cond_some (closes block start at e) (record { entries = e ∷ []; end = entry_end at e; last = tag_for_next_xor e.tag }) c h in
                subst (IsCommitOf block start at before) right.1 (is, sum, right.0, refl, refl)
            | false ↦ λ other h.
                elim (bounded_commit_at n block start (entry_end at e) e.tag) as (λ o. bounded_commit_at n block start (entry_end at e) e.tag ≡ o → option_map (with_entry e) o ≡ Some c → IsCommitOf block start at before c) [
                  | None ↦ λ rest h. absurd cc
                  | Some d ↦ λ rest h.
                      let same : with_entry e d ≡ c = cc in
                      subst (IsCommitOf block start at before) same (commit-more block start at before e d.entries d.end d.last is other (commit_sound n block start (entry_end at e) e.tag d rest))
                ] refl h
          ] refl h
    ] refl h
  where
    step : Option LogEntry → ℕ → Option Commit
    step o k = option_and_then (λ e. cond (is_checksum_entry e) (cond (closes block start at e) (Some (record { entries = e ∷ []; end = entry_end at e; last = tag_for_next_xor e.tag })) None) (option_map (with_entry e) (bounded_commit_at k block start (entry_end at e) e.tag))) o

pub commit_complete : (block : List ℕ) (start at before : ℕ) (es : List LogEntry) (end last : ℕ) → IsCommit block start at before es end last
    → commit_at block start at before ≡ Some (record { entries = es; end = end; last = last })
commit_complete block start at before [] end last h = absurd h
commit_complete block start at before (e ∷ []) end last h = rw (h.3, h.4) (commit_closed block start at before e h.0 h.1 h.2)
commit_complete block start at before (e ∷ f ∷ es) end last h =
    commit_on block start at before e h.0 h.1 ∙ ap (option_map (with_entry e)) (commit_complete block start (entry_end at e) e.tag (f ∷ es) end last h.2)

-- a commit takes space within the block
pub record Within (block : List ℕ) (at end : ℕ) : Type 0 where
  pub after : at + 4 ≤ end
  pub within : end ≤ length block

pub commit_space : (block : List ℕ) (start at before : ℕ) (es : List LogEntry) (end last : ℕ) → IsCommit block start at before es end last → Within block at end
commit_space block start at before [] end last h = absurd h
commit_space block start at before (e ∷ []) end last h = let l = lies block at before e h.0 in record { after = omega (arith, h.3); within = omega (arith, h.3, l.within) }
commit_space block start at before (e ∷ f ∷ es) end last h =
    let ih = commit_space block start (entry_end at e) e.tag (f ∷ es) end last h.2 in
    record { after = omega (arith, ih.after); within = ih.within }

-- ---- chains

no_commit : (block : List ℕ) (start at before : ℕ) → length block ≤ at → commit_at block start at before ≡ None
no_commit block start at before le = commit_none block start at before (no_entry block at before le)

chain_fuel : (n m : ℕ) (block : List ℕ) (start at before : ℕ) → length block - at ≤ n → length block - at ≤ m → bounded_commit_sequence n block start at before ≡ bounded_commit_sequence m block start at before
unfolding bounded_commit_sequence
chain_fuel zero zero block start at before p q = refl
chain_fuel zero (suc m) block start at before p q = rw (no_commit block start at before (omega arith)) refl
chain_fuel (suc n) zero block start at before p q = rw (no_commit block start at before (omega arith)) refl
chain_fuel (suc n) (suc m) block start at before p q =
    elim (commit_at block start at before) as (λ o. commit_at block start at before ≡ o → step n o ≡ step m o) [
      | None ↦ λ is. refl
      | Some c ↦ λ is.
          let w = commit_space block start at before c.entries c.end c.last (commit_sound (length block - at) block start at before c is) in
          ap (with_commit c.entries) (chain_fuel n m block c.end c.end c.last (omega (arith, w.after)) (omega (arith, w.after)))
    ] refl
  where
    step : ℕ → Option Commit → CommitSequence
    step k o = sequence_or_empty at before (option_map (λ c. with_commit c.entries (bounded_commit_sequence k block c.end c.end c.last)) o)

chain_more : (block : List ℕ) (start at before : ℕ) → longest_sequence block start at before ≡ bounded_commit_sequence (suc (length block - at)) block start at before
chain_more block start at before = chain_fuel (length block - at) (suc (length block - at)) block start at before (omega arith) (omega arith)

pub chain_none : (block : List ℕ) (start at before : ℕ) → commit_at block start at before ≡ None → longest_sequence block start at before ≡ record { commits = []; end = at; last = before }
unfolding bounded_commit_sequence
chain_none block start at before is = chain_more block start at before ∙ rw is refl

pub chain_on : (block : List ℕ) (start at before : ℕ) (c : Commit) → commit_at block start at before ≡ Some c
    → longest_sequence block start at before ≡ with_commit c.entries (longest_sequence block c.end c.end c.last)
unfolding bounded_commit_sequence
chain_on block start at before c is =
    let w = commit_space block start at before c.entries c.end c.last (commit_sound (length block - at) block start at before c is) in
    chain_more block start at before ∙ rw is (ap (with_commit c.entries) (chain_fuel (length block - at) (length block - c.end) block c.end c.end c.last (omega (arith, w.after)) (omega arith)))

abbrev pub IsChainAt : List ℕ → ℕ → ℕ → ℕ → CommitSequence → Type 0
IsChainAt block start at before c = AreAdjacentCommits block start at before c.commits c.end c.last

pub chain_sound : (n : ℕ) (block : List ℕ) (start at before : ℕ) → IsChainAt block start at before (bounded_commit_sequence n block start at before)
unfolding bounded_commit_sequence
chain_sound zero block start at before = (refl, refl)
chain_sound (suc n) block start at before =
    elim (commit_at block start at before) as (λ o. commit_at block start at before ≡ o → IsChainAt block start at before (step o)) [
      | None ↦ λ is. (refl, refl)
      | Some c ↦ λ is. (c.end, c.last, commit_sound (length block - at) block start at before c is, chain_sound n block c.end c.end c.last)
    ] refl
  where
    step : Option Commit → CommitSequence
    step o = sequence_or_empty at before (option_map (λ c. with_commit c.entries (bounded_commit_sequence n block c.end c.end c.last)) o)

-- no chain is longer
pub chain_longest : (block : List ℕ) (start at before : ℕ) (cs : List (List LogEntry)) (end last : ℕ) → AreAdjacentCommits block start at before cs end last → length cs ≤ length (longest_sequence block start at before).commits
chain_longest block start at before [] end last h = omega arith
chain_longest block start at before (c ∷ cs) end last (mid, carry, commit, rest) =
    let on = chain_on block start at before (record { entries = c; end = mid; last = carry }) (commit_complete block start at before c mid carry commit) in
    let ih = chain_longest block mid mid carry cs end last rest in
    rw on (omega (arith, ih))

-- and each is a beginning of the one that is computed
pub chain_beginning : (block : List ℕ) (start at before : ℕ) (cs : List (List LogEntry)) (end last : ℕ) → AreAdjacentCommits block start at before cs end last → take (length cs) (longest_sequence block start at before).commits ≡ cs
chain_beginning block start at before [] end last h = refl
chain_beginning block start at before (c ∷ cs) end last (mid, carry, commit, rest) =
    let on = chain_on block start at before (record { entries = c; end = mid; last = carry }) (commit_complete block start at before c mid carry commit) in
    rw on (ap (λ (ds : List (List LogEntry)). c ∷ ds) (chain_beginning block mid mid carry cs end last rest))

-- ---- steps of the code

abbrev pub chain_stop : CommitSequence → ℕ × ℕ
chain_stop c = (c.end, c.last)

pub chain_follows : (block : List ℕ) (start at before : ℕ) (r : ℕ × ℕ) → Some r ≡ option_map stop (commit_at block start at before)
    → chain_stop (longest_sequence block start at before) ≡ chain_stop (longest_sequence block r.0 r.0 r.1)
chain_follows block start at before r h =
    elim (commit_at block start at before) as (λ o. commit_at block start at before ≡ o → Some r ≡ option_map stop o → chain_stop (longest_sequence block start at before) ≡ chain_stop (longest_sequence block r.0 r.0 r.1)) [
      | None ↦ λ is h. absurd cc
      | Some c ↦ λ is h.
          let same : r ≡ (c.end, c.last) = cc in
          ap chain_stop (chain_on block start at before c is) ∙ sym (ap (λ (s : ℕ × ℕ). chain_stop (longest_sequence block s.0 s.0 s.1)) same)
    ] refl h

pub chain_stops : (block : List ℕ) (start at before : ℕ) → None ≡ option_map stop (commit_at block start at before)
    → chain_stop (longest_sequence block start at before) ≡ (at, before)
chain_stops block start at before h =
    elim (commit_at block start at before) as (λ o. commit_at block start at before ≡ o → None ≡ option_map stop o → chain_stop (longest_sequence block start at before) ≡ (at, before)) [
      | None ↦ λ is h. ap chain_stop (chain_none block start at before is)
      | Some c ↦ λ is h. absurd cc
    ] refl h
