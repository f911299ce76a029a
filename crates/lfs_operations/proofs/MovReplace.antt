-- A rename across pairs over an entry, from the slots of both.
use Rattle.lfs_operations.proofs.Common.{Bool, true, List, [], ◌∷◌, ◌++◌, length, Some, sym, ap, subst, ◌∙◌, Disk, IsPositionOfName, AreU32Addresses, Name, Slot, gstate_xor, Pair, Path, tree_renaming, without_prefix, IsDirectoryAtPath, IsChangedImage, no_move_from, site, slot_of_stands, Site, thread_at, KeptThread, thread_pair, CanEditIn, gstate_with_move, CanMoveBetweenPairs, Route}
use Rattle.lfs_model.proofs.SetMoves.{HasTurned, set_onto, walk_by}
use Rattle.lfs_operations.proofs.RenameMade.{name_at, site_of, stand_of}
use Rattle.lfs_operations.proofs.MovPlaced.{IsAimed, IsPlaceInOtherPair, setting, aimed}
use Rattle.lfs_operations.proofs.PairAt.{HasPairAt, pair_at}

module _ (sync : Bool) (t : KeptThread) (route : Route) (name : Name) (rename : CanMoveBetweenPairs true sync t route name) (address : AreU32Addresses (thread_pair t route.old_pair).at) where
  abbrev can : CanEditIn t route.old_pair route.old_id
  can = rename.old

  abbrev b : IsPositionOfName t.pairs rename.to_first name route.new_pair route.new_id
  b = rename.target.there

  abbrev p : Pair
  p = b.pair

  -- the entry that is replaced
  abbrev g : Slot
  g = b.stands.slot

  abbrev w : Site
  w = site t.disk t.pairs rename.path rename.at can.ready.accepted rename.leads rename.to_first route.new_pair p b.rest b.place rename.begins

  stand : HasPairAt t route.new_pair rename.path rename.at w p
  stand = pair_at t can.ready rename.path rename.at rename.leads rename.to_first route.new_pair p b.rest b.place rename.begins

  aim : IsPlaceInOtherPair t route can rename.path rename.at w p b.stands.left (Some g) b.stands.right name
  aim = record {
    logged = record { ready = can.ready; first = rename.to_first; rest = b.rest; place = b.place; logged = rename.logged };
    stand = stand;
    number = b.stands.number;
    apart = rename.apart;
    was = b.stands.held;
    front = λ e. b.stands.entry;
    named = name_at can.ready b;
    fits = rename.fits;
  }

  abbrev from : Path
  from = can.path ++ can.name ∷ []

  abbrev to : Path
  to = rename.path ++ name ∷ []

  follows : (disk : Disk) (x : Pair) (more : List Pair) → HasTurned t.disk w p (b.stands.left ++ record can.stands.stands.slot { name = name } ∷ b.stands.right) (gstate_xor (gstate_with_move sync can.stands.pair.at (length can.stands.stands.left)) p.content.move) disk x more
      → IsChangedImage t.disk (thread_at w (p ∷ [])) disk (thread_at w (x ∷ more)) (tree_renaming from to) (walk_by from to)
  follows disk x more turned = subst (λ (n : Name). IsChangedImage t.disk (thread_at w (p ∷ [])) disk (thread_at w (x ∷ more)) (tree_renaming (can.path ++ n ∷ []) to) (walk_by (can.path ++ n ∷ []) to)) can.stands.stands.named
      (set_onto t.disk (site_of can) can.stands.pair can.stands.stands.left can.stands.stands.slot can.stands.stands.right w p b.stands.left (record can.stands.stands.slot { name = name }) b.stands.right sync disk x more turned
      can.path can.at (subst (λ z. IsDirectoryAtPath z can.path can.at) stand.there can.leads) (stand_of can).begin rename.path rename.at stand.leads stand.begin
      g b.stands.entry (setting rename.begins_old aim) (ap (λ (n : Name). record can.stands.stands.slot { name = n }) (sym b.stands.named))
      (ap (λ (n : Name). without_prefix (can.path ++ n ∷ []) (rename.path ++ g.name ∷ [])) can.stands.stands.named
      ∙ ap (λ (n : Name). without_prefix from (rename.path ++ n ∷ [])) b.stands.named ∙ rename.not_beneath) rename.target.file)

  pub aimed_onto : IsAimed true sync t route name rename.old rename.path w p rename.target.there.stands.left (Some rename.target.there.stands.slot) rename.target.there.stands.right
  aimed_onto = aimed rename.begins_old aim sync address follows
      (slot_of_stands t.disk t.pairs rename.path rename.at can.ready.accepted rename.leads rename.to_first route.new_pair route.new_id name (no_move_from t.pairs can.ready.settled) b rename.begins) rename.target.file
