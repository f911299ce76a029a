-- Where the two steps of a mkdir change a directory: behind its last pair, and in the pair where the name belongs, which may be that one.
use Rattle.std.proofs.Common.{false, ℕ, ◌≡◌, ◌⊎◌, inl, inr, ◌+◌, true, cond, List, [], ◌∷◌, ◌++◌, length, drop, refl, sym, ap, subst, ◌∙◌, arith, append_assoc, length-append, Some}
use Rattle.lfs_model.proofs.Common.{Disk, Name, Session, Slot, zero_gstate, same_pair, directory_slot, path_or_root, Pair, pairs_blocks, first_address, pairs_gstate, Path, IsDirectoryAtPath, all_entries, disk_tree}
use Rattle.lfs_model.specs.session.InDirectory.{joined_pair_count}
use Rattle.lfs_model.specs.layers.StepResults.{IsDirectoryEnd}
use Rattle.lfs_model.specs.session.Operations as ops
use Rattle.lfs_model.proofs.StepsTaken as taken
use Rattle.lfs_model.proofs.Beside.{last_site, IsStepBeside}
use Rattle.lfs_model.proofs.Committed.{CompletesOperation}
use Rattle.lfs_model.proofs.Listings.{IsRun}
use Rattle.lfs_model.proofs.Moves.{IsStep, place_at}
use Rattle.lfs_model.proofs.Names.{IsPlace}
use Rattle.lfs_model.proofs.Sites.{HoldsForSome, Site, among_right, begin_of, dirs_at, run_changed, thread_at, IsSite}
use Rattle.lfs_model.proofs.Superblocks.{IsChain}
use Rattle.lfs_model.proofs.Global.{with_sync_inverted}
use Rattle.lfs_model.proofs.MkdirSteps.{mkdir_in_two_completed}
use Rattle.lfs_model.proofs.StepsTaken.{IsPutBeside}
use Rattle.lfs_model.proofs.MadeAtLast.{mkdir_at_last_completed}
use Rattle.lfs_model.proofs.PairsInFront.{LastPair, last_pair}

-- ---- a fresh pair behind the last one of a directory

-- the pair of that number is the last of a directory
pub record IsEnd (ps : List Pair) (last : ℕ) (chain before left after : List Pair) (x : Pair) : Type 0 where
  pub there : ps ≡ thread_at (last_site chain before left after) (x ∷ [])
  pub place : last ≡ length chain + length (before ++ left)
  pub site : IsSite (last_site chain before left after) (x ∷ [])

-- it names the fresh pair, which has its tail
abbrev pub naming_pair : Pair → ℕ × ℕ → Pair
naming_pair x fresh = record { at = x.at; content = record { slots = x.content.slots; tail = Some (record { hard = false; to = fresh }); move = with_sync_inverted x.content.move } }

abbrev pub fresh_pair : Pair → ℕ × ℕ → Pair
fresh_pair x fresh = record { at = fresh; content = record { slots = []; tail = x.content.tail; move = zero_gstate } }

abbrev pub IsThreading : Disk → Disk → List Pair → List Pair → List Pair → List Pair → Pair → ℕ × ℕ → Type 0
IsThreading disk new chain before left after x fresh =
    IsStepBeside disk new chain before left after x [] (naming_pair x fresh) [] (fresh_pair x fresh) (fresh.0 ∷ fresh.1 ∷ []) [] x.content.slots [] [] []

abbrev pub IsThreaded : Disk → List Pair → List Pair → List Pair → List Pair → Pair → ℕ × ℕ → Type 0
IsThreaded disk chain before left after x fresh = IsPutBeside disk (last_site chain before left after) x (naming_pair x fresh) [] (fresh_pair x fresh) x.content.slots [] [] []

-- ---- the last pair

length_run : (p : Pair) (run after : List Pair) → IsRun (p ∷ run) → joined_pair_count (p ∷ (run ++ after)) ≡ length (p ∷ run)
length_run p [] after h = ap (λ b. cond b (1 + joined_pair_count after) 1) h
length_run p (q ∷ run) after h = ap (λ b. cond b (1 + joined_pair_count (q ∷ (run ++ after))) 1) h.0 ∙ (let e = length_run q run after h.1 in omega (arith, e))

drop_behind : (xs ys : List Pair) (n : ℕ) → n ≡ length xs → drop n (xs ++ ys) ≡ ys
drop_behind [] ys n e = ap (λ k. drop k ys) e
drop_behind (x ∷ xs) ys n e = ap (λ k. drop k (x ∷ (xs ++ ys))) e ∙ drop_behind xs ys (length xs) refl

pub run_right : (left : List Pair) (p : Pair) (right : List Pair) → IsRun (left ++ p ∷ right) → IsRun (p ∷ right)
run_right [] p right h = h
run_right (x ∷ []) p right h = h.1
run_right (x ∷ y ∷ left) p right h = run_right (y ∷ left) p right h.1

last_number : (ps : List Pair) (index last : ℕ) (w : Site) (p : Pair) → ps ≡ thread_at w (p ∷ []) → index ≡ length w.chain + length (w.before ++ w.left) → IsSite w (p ∷ []) → IsDirectoryEnd ps index last
    → last ≡ index + length w.right
last_number ps index last w p there place site is =
    let whole : ps ≡ (w.chain ++ (w.before ++ w.left)) ++ (p ∷ (w.right ++ w.after)) = there ∙ sym (append_assoc w.chain (w.before ++ w.left) (p ∷ (w.right ++ w.after))) in
    let at : index ≡ length (w.chain ++ (w.before ++ w.left)) = place ∙ sym (length-append w.chain (w.before ++ w.left)) in
    let run = ap (λ z. joined_pair_count (drop index z)) whole ∙ ap joined_pair_count (drop_behind (w.chain ++ (w.before ++ w.left)) (p ∷ (w.right ++ w.after)) index at) ∙ length_run p w.right w.after (run_right w.left p w.right site.run) in
    let e = is.is in
    omega arith

pub none_or_last : (xs : List Pair) → (xs ≡ []) ⊎ LastPair xs
none_or_last [] = inl refl
none_or_last (x ∷ xs) = inr (last_pair (x ∷ xs) (λ e. absurd (cc)))

-- ---- the route

-- the site with other pairs of the directory behind it, and the fresh pair's directory
abbrev pub site_behind : Site → List Pair → Pair → Site
site_behind w right f = record { chain = w.chain; before = w.before; left = w.left; right = right; after = f ∷ w.after }

-- what the two steps at these places complete
abbrev pub Completes : Disk → Site → List Pair → Pair → ℕ × ℕ → List Pair → Pair → List Slot → List Slot → Path → Name → Type 0
Completes disk w left x fresh right p2 l r P name =
    (middle new : Disk) (q : Pair) (more : List Pair) → IsThreading disk middle w.chain w.before left w.after x fresh → IsThreaded disk w.chain w.before left w.after x fresh
    → IsStep middle new (site_behind w right (fresh_pair x fresh)) p2 [] q more (pairs_blocks more) [] l [] (directory_slot name fresh ∷ []) r
    → taken.IsPut middle (site_behind w right (fresh_pair x fresh)) p2 q more l [] (directory_slot name fresh ∷ []) r
    → (a : ℕ × ℕ) → IsDirectoryAtPath (thread_at (last_site w.chain w.before left w.after) (x ∷ [])) P a → same_pair (begin_of (last_site w.chain w.before left w.after) (x ∷ [])) a ≡ true
    → IsPlace middle.order (all_entries (thread_at (site_behind w right (fresh_pair x fresh)) (p2 ∷ [])) a) (place_at (site_behind w right (fresh_pair x fresh)) l) name
    → (pairs_gstate (thread_at (last_site w.chain w.before left w.after) (naming_pair x fresh ∷ ([] ++ fresh_pair x fresh ∷ [])))).sync ≡ true
    → pairs_gstate (thread_at (last_site w.chain w.before left w.after) (x ∷ [])) ≡ zero_gstate
    → pairs_gstate (thread_at (site_behind w right (fresh_pair x fresh)) (q ∷ more)) ≡ zero_gstate
    → (s : Session) (given : List ℕ) → s.tree ≡ disk_tree disk (thread_at (last_site w.chain w.before left w.after) (x ∷ [])) → path_or_root given ≡ P ++ name ∷ []
    → CompletesOperation disk (thread_at (last_site w.chain w.before left w.after) (x ∷ [])) s (ops.Mkdir given) new (thread_at (site_behind w right (fresh_pair x fresh)) (q ∷ more))

-- the pair is the last one itself
pub record IsOne (p x p2 : Pair) (fresh : ℕ × ℕ) : Type 0 where
  pub same : x ≡ p
  pub names : p2 ≡ naming_pair x fresh

-- or the last one stands behind it
pub record IsAhead (p x p2 : Pair) (right : List Pair) (fresh : ℕ × ℕ) : Type 0 where
  pub stays : p2 ≡ p
  pub names : HoldsForSome (λ y. y ≡ naming_pair x fresh) right

-- The last pair stands there, and after the first step the pair of the name here.
pub record IsRoute (disk : Disk) (ps : List Pair) (last : ℕ) (w : Site) (p : Pair) (fresh : ℕ × ℕ) (l r : List Slot) (P : Path) (name : Name) : Type 0 where
  pub left : List Pair
  pub x : Pair
  pub end : IsEnd ps last w.chain w.before left w.after x
  pub right : List Pair
  pub p2 : Pair
  pub at : p2.at ≡ p.at
  pub slots : p2.content.slots ≡ p.content.slots
  pub dirs : dirs_at (last_site w.chain w.before left w.after) (naming_pair x fresh ∷ fresh_pair x fresh ∷ []) ≡ dirs_at (site_behind w right (fresh_pair x fresh)) (p2 ∷ [])
  pub run : IsRun (w.left ++ (p2 ∷ [] ++ right))
  pub began : begin_of (last_site w.chain w.before left w.after) (x ∷ []) ≡ begin_of w (p ∷ [])
  pub begins : begin_of (site_behind w right (fresh_pair x fresh)) (p2 ∷ []) ≡ begin_of w (p ∷ [])
  pub which : IsOne p x p2 fresh ⊎ IsAhead p x p2 right fresh
  pub completed : Completes disk w left x fresh right p2 l r P name

module _ (disk : Disk) (ps : List Pair) (index last : ℕ) (w : Site) (p : Pair) (there : ps ≡ thread_at w (p ∷ [])) (place : index ≡ length w.chain + length (w.before ++ w.left)) (site : IsSite w (p ∷ [])) (is_last : IsDirectoryEnd ps index last)
    (fresh : ℕ × ℕ) (l r : List Slot) (P : Path) (name : Name) where
  number : last ≡ index + length w.right
  number = last_number ps index last w p there place site is_last

  -- the pair is the last one itself
  alone : w.right ≡ [] → IsRoute disk ps last w p fresh l r P name
  alone e = record {
    left = w.left;
    x = p;
    end = record {
      there = there ∙ ap (λ (z : List Pair). w.chain ++ ((w.before ++ w.left) ++ (p ∷ (z ++ w.after)))) e;
      place = let n = number in let k = ap length e in omega (arith, n, k, place);
      site = record {
        chain = subst (λ (z : List Pair). IsChain w.chain ((w.before ++ w.left) ++ (p ∷ (z ++ w.after)))) e site.chain;
        ends = site.ends;
        run = run_there;
      };
    };
    right = [];
    p2 = naming_pair p fresh;
    at = refl;
    slots = refl;
    dirs = refl;
    run = run_changed w.left p [] (naming_pair p fresh) [] (λ h. refl) run_there;
    began = refl;
    begins = go w.left;
    which = inl (record { same = refl; names = refl });
    completed = λ middle new q more step put step2 put2 a leads same place sync settled still s given tree is.
        mkdir_at_last_completed disk middle new w.chain w.before w.left w.after p (naming_pair p fresh) (fresh_pair p fresh) (fresh.0 ∷ fresh.1 ∷ []) p.content.slots [] q more (pairs_blocks more) l r P name
        step put step2 put2 a leads same place sync settled still s given tree is;
  }
    where
      run_there : IsRun (w.left ++ p ∷ [])
      run_there = subst (λ (z : List Pair). IsRun (w.left ++ p ∷ z)) e site.run

      go : (xs : List Pair) → first_address (xs ++ naming_pair p fresh ∷ []) ≡ first_address (xs ++ p ∷ [])
      go [] = refl
      go (z ∷ xs) = refl

  -- it stands in front of the last one
  behind : (k : LastPair w.right) → IsRoute disk ps last w p fresh l r P name
  behind k = record {
    left = w.left ++ p ∷ k.front;
    x = k.last;
    end = record {
      there = there ∙ ap (λ z. w.chain ++ z) dirs_are;
      place =
          let n = number in let m = ap length k.is in let a = length-append k.front (k.last ∷ []) in let b = length-append w.before w.left in let c = length-append w.before (w.left ++ p ∷ k.front) in
          let d = length-append w.left (p ∷ k.front) in
          omega (arith, n, m, a, b, c, d, place);
      site = record {
        chain = subst (IsChain w.chain) dirs_are site.chain;
        ends = site.ends;
        run = subst IsRun (ap (λ (z : List Pair). w.left ++ p ∷ z) k.is ∙ sym (append_assoc w.left (p ∷ k.front) (k.last ∷ []))) site.run;
      };
    };
    right = k.front ++ y ∷ [];
    p2 = p;
    at = refl;
    slots = refl;
    dirs = turned (y ∷ f ∷ w.after) ∙ ap (λ z. (w.before ++ w.left) ++ (p ∷ z)) (sym (append_assoc k.front (y ∷ []) (f ∷ w.after)));
    run = run_here;
    began = go w.left;
    begins = refl;
    which = inr (record { stays = refl; names = among_right (λ z. z ≡ y) k.front (y ∷ []) (inl refl) });
    completed = λ middle new q more step put step2 put2 a leads same place sync settled still s given tree is.
        mkdir_in_two_completed disk middle new w.chain w.before w.left k.front w.after k.last y f (fresh.0 ∷ fresh.1 ∷ []) k.last.content.slots [] p q more (pairs_blocks more) l r P name
        step put step2 put2 a leads same place sync settled still s given tree is;
  }
    where
      y : Pair
      y = naming_pair k.last fresh

      f : Pair
      f = fresh_pair k.last fresh

      turned : (vs : List Pair) → (w.before ++ (w.left ++ p ∷ k.front)) ++ vs ≡ (w.before ++ w.left) ++ (p ∷ (k.front ++ vs))
      turned vs = append_assoc w.before (w.left ++ p ∷ k.front) vs ∙ ap (λ z. w.before ++ z) (append_assoc w.left (p ∷ k.front) vs) ∙ sym (append_assoc w.before w.left (p ∷ (k.front ++ vs)))

      dirs_are : dirs_at w (p ∷ []) ≡ dirs_at (last_site w.chain w.before (w.left ++ p ∷ k.front) w.after) (k.last ∷ [])
      dirs_are = ap (λ (z : List Pair). (w.before ++ w.left) ++ (p ∷ (z ++ w.after))) k.is ∙ ap (λ z. (w.before ++ w.left) ++ (p ∷ z)) (append_assoc k.front (k.last ∷ []) w.after) ∙ sym (turned (k.last ∷ w.after))

      run_here : IsRun (w.left ++ (p ∷ (k.front ++ naming_pair k.last fresh ∷ [])))
      run_here = subst IsRun (append_assoc w.left (p ∷ k.front) (naming_pair k.last fresh ∷ []))
          (run_changed (w.left ++ p ∷ k.front) k.last [] (naming_pair k.last fresh) [] (λ h. refl)
          (subst IsRun (ap (λ (z : List Pair). w.left ++ p ∷ z) k.is ∙ sym (append_assoc w.left (p ∷ k.front) (k.last ∷ []))) site.run))

      go : (xs : List Pair) → first_address ((xs ++ p ∷ k.front) ++ k.last ∷ []) ≡ first_address (xs ++ p ∷ [])
      go [] = refl
      go (z ∷ xs) = refl

  pub route : IsRoute disk ps last w p fresh l r P name
  route = go (none_or_last w.right)
    where
      go : (w.right ≡ []) ⊎ LastPair w.right → IsRoute disk ps last w p fresh l r P name
      go (inl e) = alone e
      go (inr k) = behind k
