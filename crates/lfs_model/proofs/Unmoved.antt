-- Whether a pair moves after an operation: after most none does, and never where the profile gives no cycles.
use Rattle.std.proofs.Common.{ℕ, ◌≡◌, inl, inr, true, false, List, [], ◌∷◌, ◌++◌, append_assoc, Option, Some, None, refl, sym, ap, subst, ◌∙◌}
use Rattle.lfs_model.proofs.Common.{Blocks, Disk, SameGeometry, current_block, Pair, IsAccepted, IsWritable, disk_tree, CallEvent, LeftByLatestCall, IsRecovered, operation_effect, Operation, Session, DiskSummary, IsLayoutAfterRecovery, is_worn_block, is_worn}
use Rattle.lfs_model.specs.declared.limits.Profile.{Profile}
use Rattle.lfs_model.proofs.Counts.{Each}
use Rattle.lfs_model.proofs.Sites.{any_from, among_from, among_left, among_right}
use Rattle.lfs_model.proofs.Arranged.{IsFinished}
use Rattle.lfs_model.specs.session.Moved.{IsOnePairRelocated, IsWearLeveled, HadBlocks, IsLayoutAfterRelocation}

pub nothing_moves : (disk : Disk) (ps : List Pair) (s : Session) (op : Operation) (calls : List CallEvent) (new : Disk) (qs : List Pair) → SameGeometry disk new → IsAccepted new qs →
    IsLayoutAfterRecovery disk ps s op new qs → IsLayoutAfterRelocation disk ps s op calls new qs
nothing_moves disk ps s op calls new qs geometry ok laid = record { done = new; after = qs; had = inr (inl refl); geometry = geometry; accepted = ok; operation = laid; spread = inl (refl, refl) }

-- after more calls, which came before these, the layout is the same
pub moved_behind : (disk : Disk) (ps : List Pair) (s : Session) (op : Operation) (calls earlier : List CallEvent) (new : Disk) (qs : List Pair) → IsLayoutAfterRelocation disk ps s op calls new qs → IsLayoutAfterRelocation disk ps s op (calls ++ earlier) new qs
moved_behind disk ps s op calls earlier new qs h = record {
  done = h.done;
  after = h.after;
  had = had_behind disk calls earlier new h.done.blocks h.had;
  geometry = h.geometry;
  accepted = h.accepted;
  operation = h.operation;
  spread = h.spread;
}
  where
    had_behind : (disk : Disk) (calls earlier : List CallEvent) (new : Disk) (blocks : Blocks) → HadBlocks disk calls new blocks → HadBlocks disk (calls ++ earlier) new blocks
    had_behind disk calls earlier new blocks (inl e) = inl e
    had_behind disk calls earlier new blocks (inr (inl e)) = inr (inl e)
    had_behind disk calls earlier new blocks (inr (inr h)) =
        inr (inr (any_from (λ e. e.after ≡ blocks) (calls ++ earlier) (among_left (λ e. e.after ≡ blocks) calls earlier (among_from (λ e. e.after ≡ blocks) calls h))))

never_worn : (cycles : ℕ) (block : Option (List ℕ)) → cycles ≡ 0 → is_worn_block cycles block ≡ true → ⊥
never_worn cycles None e h = absurd (cc)
never_worn cycles (Some block) e h = absurd (let k = sym (ap (λ n. is_worn_block n (Some block)) e) ∙ h in cc)

pub none_is_worn : (disk : Disk) (p : Pair) → disk.profile.pair_cycles ≡ 0 → is_worn disk p ≡ true → ⊥
none_is_worn disk p e h = never_worn disk.profile.pair_cycles (current_block disk p.at) e h

pub none_moves : (disk : Disk) (ps : List Pair) (new : Disk) (qs : List Pair) → disk.profile.pair_cycles ≡ 0 → IsOnePairRelocated disk ps new qs → ⊥
none_moves disk ps new qs e (inl m) = none_is_worn disk m.worn e m.due
none_moves disk ps new qs e (inr (inl m)) = none_is_worn disk m.worn e m.due
none_moves disk ps new qs e (inr (inr m)) = none_is_worn disk m.worn e m.due

-- a pair that moves is among the pairs
worn_among : (disk : Disk) (front : List Pair) (worn : Pair) (back : List Pair) → Each (λ p. is_worn disk p ≡ false) (front ++ worn ∷ back) → is_worn disk worn ≡ true → ⊥
worn_among disk [] worn back h due = let k = sym h.0 ∙ due in absurd (cc)
worn_among disk (p ∷ front) worn back h due = worn_among disk front worn back h.1 due

pub only_worn_moves : (disk : Disk) (ps : List Pair) (new : Disk) (qs : List Pair) → Each (λ p. is_worn disk p ≡ false) ps → IsOnePairRelocated disk ps new qs → ⊥
only_worn_moves disk ps new qs h (inl m) = worn_among disk (m.front ++ m.before ∷ []) m.worn m.back (subst (Each (λ p. is_worn disk p ≡ false)) (m.was ∙ sym (append_assoc m.front (m.before ∷ []) (m.worn ∷ m.back))) h) m.due
only_worn_moves disk ps new qs h (inr (inl m)) = worn_among disk (m.front ++ m.before ∷ []) m.worn m.back (subst (Each (λ p. is_worn disk p ≡ false)) (m.was ∙ sym (append_assoc m.front (m.before ∷ []) (m.worn ∷ m.back))) h) m.due
only_worn_moves disk ps new qs h (inr (inr m)) = worn_among disk [] m.worn m.back (subst (Each (λ p. is_worn disk p ≡ false)) m.was h) m.due

pub stays_without_cycles : (disk : Disk) (ps : List Pair) (new : Disk) (qs : List Pair) → disk.profile.pair_cycles ≡ 0 → IsWearLeveled disk ps new qs → (new ≡ disk) × (qs ≡ ps)
stays_without_cycles disk ps new qs e (inl same) = same
stays_without_cycles disk ps new qs e (inr m) = absurd (none_moves disk ps new qs e m)

-- without cycles slots are where the operation lays them out
pub laid_without_cycles : (disk : Disk) (ps : List Pair) (s : Session) (op : Operation) (calls : List CallEvent) (new : Disk) (qs : List Pair) → disk.profile.pair_cycles ≡ 0 →
    IsLayoutAfterRelocation disk ps s op calls new qs → IsLayoutAfterRecovery disk ps s op new qs
laid_without_cycles disk ps s op calls new qs e h =
    let same = stays_without_cycles h.done h.after new qs (ap (λ (v : Profile). v.pair_cycles) h.geometry.profile ∙ e) h.spread in
    subst (λ d. IsLayoutAfterRecovery disk ps s op d qs) (sym same.0) (subst (IsLayoutAfterRecovery disk ps s op h.done) (sym same.1) h.operation)

-- ---- an operation and what it comes to, with a pair that moves after it

-- what an operation comes to by these calls, where at most one worn pair moves after it
pub record IsSpread (disk : Disk) (ps : List Pair) (s : Session) (op : Operation) (calls : List CallEvent) (new : Disk) (qs : List Pair) : Type 0 where
  pub accepted : IsAccepted new qs
  pub writable : IsWritable new qs
  pub recovered : IsRecovered qs
  pub tree : (around : DiskSummary) → disk_tree new qs ≡ (operation_effect around s op).1.tree
  pub arranged : IsLayoutAfterRelocation disk ps s op calls new qs

pub finished_unmoved : (disk : Disk) (ps : List Pair) (s : Session) (op : Operation) (calls : List CallEvent) (new : Disk) (qs : List Pair) → SameGeometry disk new → IsFinished disk ps s op new qs → IsSpread disk ps s op calls new qs
finished_unmoved disk ps s op calls new qs geometry h = record {
  accepted = h.accepted;
  writable = h.writable;
  recovered = h.recovered;
  tree = h.tree;
  arranged = nothing_moves disk ps s op calls new qs geometry h.accepted h.arranged;
}

-- the newest call left the blocks that the operation left, or there was none
pub had_latest : (disk mid new : Disk) (later calls old : List CallEvent) → LeftByLatestCall (calls ++ old) mid.blocks → (calls ≡ [] → mid.blocks ≡ disk.blocks) → HadBlocks disk (later ++ calls) new mid.blocks
had_latest disk mid new later [] old latest still = inl (still refl)
had_latest disk mid new later (e ∷ calls) old latest still = inr (inr (any_from (λ c. c.after ≡ mid.blocks) (later ++ e ∷ calls) (among_right (λ c. c.after ≡ mid.blocks) later (e ∷ calls) (inl (latest e (calls ++ old) refl)))))
