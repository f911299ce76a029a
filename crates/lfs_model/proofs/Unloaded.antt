-- A directory's first pair that isn't the root's gives all its slots to a pair behind it, for the step that moves a worn pair.
use Rattle.std.proofs.Common.{◌≡◌, ◌≢◌, ◌<◌, ◌≤◌, false, List, [], ◌∷◌, ◌++◌, length, drop, refl, sym, ap, ap₂, subst, ◌∙◌, arith, append_assoc, append-nil, length-append, drop_at}
use Rattle.std.specs.Prelude.{All, sum_by}
use Rattle.lfs_model.proofs.Common.{All-from_recursion, Disk, pair_capacity, slots_limit, Slot, slot_size, Pair, address_blocks, is_hard_tail, begins_with_superblock, pairs_gstate, count_before_root, IsFileOrDirectory, IsAccepted, IsWritableSlot, HasNoEmptyPairs, IsWritable, last_tail_is_hard, IsWritableChange}
use Rattle.lfs_model.proofs.Counts.{Each, each_right}
use Rattle.lfs_model.proofs.Global.{HasNoMove}
use Rattle.lfs_model.proofs.Superblocks.{StructMark, hold_each, hold_from_rules, starts_not}
use Rattle.lfs_model.proofs.Sites.{IsSite, thread_at}
use Rattle.lfs_model.proofs.Changes.{chain_now}
use Rattle.lfs_model.proofs.Splices.{all_slots, IsDevice, AreFree, split_shape, splice_change}
use Rattle.lfs_model.proofs.Moves.{IsStep}
use Rattle.lfs_model.proofs.Rests.{slots_stay}
use Rattle.lfs_model.proofs.Writable.{IsWithin}
use Rattle.lfs_model.proofs.Profiles.{step_writable}
use Rattle.lfs_model.proofs.Indexes.{HasSite, site_of_number}
use Rattle.lfs_model.proofs.Unthreaded.{SameParts, same_parts, IsReady, Unthreads}
use Rattle.lfs_model.proofs.Relocated.{IsUnloaded, unloaded_gstate, each_within, within_same}

pub unload : (disk new : Disk) (chain : List Pair) (f : Pair) (front : List Pair) (x q y : Pair) (back : List Pair) → IsReady disk chain (f ∷ front ++ x ∷ back) →
    IsUnloaded disk new (chain ++ f ∷ front) x q y back [] → last_tail_is_hard false (f ∷ front) ≡ false → x.content.slots ≢ [] → Unthreads disk new chain (f ∷ front ++ x ∷ back) (f ∷ front ++ q ∷ y ∷ back)
unload disk new chain f front x q y back r c soft some = record { taken = taken; ready = ready }
  where
    few : length (chain ++ f ∷ front) < length (chain ++ (f ∷ front ++ x ∷ back))
    few = omega (arith, length-append chain (f ∷ front), length-append chain (f ∷ front ++ x ∷ back), length-append (f ∷ front) (x ∷ back))

    behind : count_before_root (chain ++ (f ∷ front ++ x ∷ back)) ≤ length (chain ++ f ∷ front)
    behind = let e = r.is_chain in omega (arith, e, length-append chain (f ∷ front))

    at : HasSite (chain ++ (f ∷ front ++ x ∷ back)) (length (chain ++ f ∷ front))
    at = site_of_number disk (chain ++ (f ∷ front ++ x ∷ back)) (length (chain ++ f ∷ front)) r.accepted behind few

    same : SameParts (at.site.chain ++ (at.site.before ++ at.site.left)) at.pair (at.site.right ++ at.site.after) (chain ++ f ∷ front) x back
    same = same_parts (at.site.chain ++ (at.site.before ++ at.site.left)) at.pair (at.site.right ++ at.site.after) (chain ++ f ∷ front) x back at.number
        (append_assoc at.site.chain (at.site.before ++ at.site.left) (at.pair ∷ (at.site.right ++ at.site.after)) ∙ sym at.is ∙ sym (append_assoc chain (f ∷ front) (x ∷ back)))

    -- the thread with any pairs there
    there : (xs : List Pair) → (chain ++ f ∷ front) ++ (xs ++ back) ≡ thread_at at.site xs
    there xs = ap₂ (λ a z. a ++ (xs ++ z)) (sym same.front) (sym same.back) ∙ append_assoc at.site.chain (at.site.before ++ at.site.left) (xs ++ (at.site.right ++ at.site.after))

    old_is : chain ++ (f ∷ front ++ x ∷ back) ≡ thread_at at.site (x ∷ [])
    old_is = sym (append_assoc chain (f ∷ front) (x ∷ back)) ∙ there (x ∷ [])

    new_is : chain ++ (f ∷ front ++ q ∷ y ∷ back) ≡ thread_at at.site (q ∷ y ∷ [])
    new_is = sym (append_assoc chain (f ∷ front) (q ∷ y ∷ back)) ∙ there (q ∷ y ∷ [])

    -- as many superblock's pairs
    chain_length : length at.site.chain ≡ length chain
    chain_length = sym at.is_site.chain ∙ ap count_before_root (sym at.is) ∙ r.is_chain

    dirs_before : at.site.before ++ at.site.left ≡ f ∷ front
    dirs_before = sym (drop_at at.site.chain (at.site.before ++ at.site.left) (length chain) chain_length) ∙ ap (drop (length chain)) same.front ∙ drop_at chain (f ∷ front) (length chain) refl

    -- only the root's first pair has a superblock
    no_superblock : begins_with_superblock x.content.slots ≡ false
    no_superblock = starts_not x.content.slots (each_right (λ z. All IsFileOrDirectory z.content.slots) front (x ∷ back) (hold_each (StructMark disk.profile.versions r.accepted.superblock.0) (front ++ x ∷ back)
        (hold_from_rules (StructMark disk.profile.versions r.accepted.superblock.0) chain f (front ++ x ∷ back) r.is_chain r.accepted.superblock.1.1 r.accepted.root r.accepted.slots).1.1)).0

    still : pairs_gstate (thread_at at.site (q ∷ y ∷ [])) ≡ pairs_gstate (thread_at at.site (x ∷ []))
    still = ap pairs_gstate (sym (there (q ∷ y ∷ []))) ∙ unloaded_gstate (chain ++ f ∷ front) x q y back c.delta c.none ∙ ap pairs_gstate (there (x ∷ []))

    no_move : HasNoMove (pairs_gstate (thread_at at.site (x ∷ [])))
    no_move = subst (λ z. HasNoMove (pairs_gstate z)) old_is r.no_move

    step : IsStep disk new at.site x [] q (y ∷ []) (address_blocks y.at) [] (all_slots (x ∷ [])) [] [] []
    step = record {
      accepted = subst (IsAccepted disk) old_is r.accepted;
      site = subst (λ z. IsSite at.site (z ∷ [])) same.pair at.is_site;
      no_move = no_move;
      still_none = subst HasNoMove (sym still) no_move;
      device = subst (λ z. IsDevice disk new z (thread_at at.site (q ∷ y ∷ []))) (there (x ∷ [])) (subst (IsDevice disk new ((chain ++ f ∷ front) ++ x ∷ back)) (there (q ∷ y ∷ [])) c.device);
      free = subst (λ z. AreFree disk z (address_blocks y.at) []) (there (x ∷ [])) c.free;
      shape = split_shape x q y c.at c.tail c.last (λ e. absurd (let k = sym e ∙ no_superblock in cc));
      was = sym (append-nil (all_slots (x ∷ [])));
      is = ap₂ (λ a b. a ++ (b ++ [])) c.kept c.slots ∙ sym (append-nil (all_slots (x ∷ [])));
      splice = record { front = λ e. refl; entries = tt; lists = tt; blocks = λ b. omega arith };
    }

    within : Each (IsWithin disk.profile disk.block_size disk.page) (q ∷ y ∷ [])
    within = (
      record {
        pair = record {
          size = subst (λ z. sum_by slot_size z ≤ pair_capacity disk.block_size disk.page) (sym c.kept) (omega arith);
          count = subst (λ (z : List Slot). length z ≤ slots_limit) (sym c.kept) (omega arith);
        };
        slots = subst (All (IsWritableSlot disk.profile disk.block_size disk.page)) (sym c.kept) (All-from_recursion (IsWritableSlot disk.profile disk.block_size disk.page) [] tt);
      },
      (
        within_same disk x y c.slots
            (each_right (IsWithin disk.profile disk.block_size disk.page) (f ∷ front) (x ∷ back) (each_right (IsWithin disk.profile disk.block_size disk.page) chain (f ∷ front ++ x ∷ back) (each_within disk (chain ++ (f ∷ front ++ x ∷ back)) r.writable))).0,
        tt,
      ),
    )

    empties : HasNoEmptyPairs (last_tail_is_hard false (at.site.before ++ at.site.left)) (x ∷ (at.site.right ++ at.site.after)) → HasNoEmptyPairs (last_tail_is_hard false (at.site.before ++ at.site.left)) (q ∷ y ∷ (at.site.right ++ at.site.after))
    empties h = (
      (λ e. absurd (let k = sym (ap (last_tail_is_hard false) dirs_before ∙ soft) ∙ e in cc)),
      ((λ e g. some (sym c.slots ∙ g)), subst (λ t. HasNoEmptyPairs (is_hard_tail t) (at.site.right ++ at.site.after)) (sym c.last) h.1),
    )

    taken : IsWritableChange disk (chain ++ (f ∷ front ++ x ∷ back)) new (chain ++ (f ∷ front ++ q ∷ y ∷ back)) (λ t. t) (λ d. d)
    taken = subst (λ z. IsWritableChange disk z new (chain ++ (f ∷ front ++ q ∷ y ∷ back)) (λ t. t) (λ d. d)) (sym old_is)
        (subst (λ z. IsWritableChange disk (thread_at at.site (x ∷ [])) new z (λ t. t) (λ d. d)) (sym new_is) (record {
          follows = slots_stay disk new at.site x [] q (y ∷ []) (address_blocks y.at) (all_slots (x ∷ [])) [] step (λ e. step.accepted.reached (ap (λ g. g.sync) (sym still) ∙ e));
          writable = step_writable disk new at.site x [] q (y ∷ []) (address_blocks y.at) [] (all_slots (x ∷ [])) [] [] [] step (subst (IsWritable disk) old_is r.writable) within empties;
        }))

    ready : IsReady new chain (f ∷ front ++ q ∷ y ∷ back)
    ready = record {
      accepted = taken.follows.accepted;
      writable = taken.writable;
      no_move = subst (λ z. HasNoMove (pairs_gstate z)) (sym new_is) step.still_none;
      is_chain = ap count_before_root new_is
          ∙ chain_now disk new at.site.chain (at.site.before ++ at.site.left) x [] q (y ∷ []) (at.site.right ++ at.site.after) (address_blocks y.at ++ []) step.site.chain step.accepted
          (splice_change disk new at.site.chain (at.site.before ++ at.site.left) x [] q (y ∷ []) (at.site.right ++ at.site.after) (address_blocks y.at) [] (all_slots (x ∷ [])) [] [] [] step.accepted step.no_move step.still_none step.device step.free
          step.shape.at (step.shape.links (at.site.right ++ at.site.after)) step.shape.front step.shape.blocks step.was step.is step.splice)
          ∙ chain_length;
    }
