-- An image that is accepted with some versions, and with others.
use Rattle.std.proofs.Common.{ℕ, ◌≡◌, ◌==◌, true, List, [], ◌∷◌, ◌++◌, refl, ap, subst, flat_map}
use Rattle.std.specs.Prelude.{nat_eq}
use Rattle.std.specs.List.{IsDistinct}
use Rattle.lfs_model.proofs.Common.{or_left, Disk, superblock_fields, Slot, Struct, Inline, Ctz, Branch, Pair, pairs_blocks, IsAccepted, IsWellFormedList, BeginsWithSuperblock, accepts_version, superblock_chain_pairs, all_unmoved_slots, struct_blocks, used_blocks}
use Rattle.std.proofs.lemmas.List.Elements.{All-weaker}
use Rattle.lfs_model.specs.declared.limits.AcceptedVersions.{AcceptedVersions}
use Rattle.lfs_model.specs.declared.limits.AcceptedVersions.TheVariants.{OnlyTwoZero, AlsoTwoOne}
use Rattle.lfs_model.specs.examples.Images.{disk_with_versions}

-- ---- the same disk, with other versions

module _ (disk : Disk) (from to : AcceptedVersions) where
  is_list : (s : Struct) → IsWellFormedList (disk_with_versions from disk) s → IsWellFormedList (disk_with_versions to disk) s
  is_list (Inline bytes) ok = ok
  is_list (Ctz head size) ok = ok
  is_list (Branch at) ok = ok

  files : (s : Struct) → struct_blocks (disk_with_versions from disk) s ≡ struct_blocks (disk_with_versions to disk) s
  files (Inline bytes) = refl
  files (Ctz head size) = refl
  files (Branch at) = refl

  used : (ps : List Pair) → used_blocks (disk_with_versions from disk) ps ≡ used_blocks (disk_with_versions to disk) ps
  used ps = ap (λ (f : Struct → List ℕ). pairs_blocks ps ++ flat_map (λ (s : Slot). f s.struct) (all_unmoved_slots ps)) (λ i s. files s i)

  chain_as : (bytes : List ℕ) → ((version : ℕ) → accepts_version from version ≡ true → accepts_version to version ≡ true) → (slots : List Slot) → BeginsWithSuperblock from bytes slots → BeginsWithSuperblock to bytes slots
  chain_as bytes more [] has = tt
  chain_as bytes more (s ∷ slots) has =
      let (own, (is, same)) = has.1 in
      (has.0, (own, (is, record { len = same.len; version = more (superblock_fields own).version same.version; rest = same.rest })), has.2)

  -- all rules but the one of the version are the same
  accepted_as : (ps : List Pair) → ((version : ℕ) → accepts_version from version ≡ true → accepts_version to version ≡ true) → IsAccepted (disk_with_versions from disk) ps
      → IsAccepted (disk_with_versions to disk) ps
  accepted_as ps more ok =
      let (bytes, (struct, chain)) = ok.superblock in
      record {
        thread = ok.thread;
        first = ok.first;
        named = ok.named;
        root = ok.root;
        superblock = (
          bytes,
          (
            record { len = struct.len; version = more (superblock_fields bytes).version struct.version; block_size = struct.block_size; block_count = struct.block_count },
            All-weaker (λ (p : Pair). BeginsWithSuperblock from bytes p.content.slots) (λ (p : Pair). BeginsWithSuperblock to bytes p.content.slots) (λ p. chain_as bytes more p.content.slots) (superblock_chain_pairs ps) chain,
          ),
        );
        slots = ok.slots;
        order = ok.order;
        branches = ok.branches;
        once = ok.once;
        reached = ok.reached;
        move = ok.move;
        lists = All-weaker (λ (s : Slot). IsWellFormedList (disk_with_versions from disk) s.struct) (λ (s : Slot). IsWellFormedList (disk_with_versions to disk) s.struct) (λ s. is_list s.struct) (all_unmoved_slots ps) ok.lists;
        owned_once = subst (IsDistinct nat_eq) (used ps) ok.owned_once;
      }

-- ---- version 2.1 beside 2.0

pub wider : (disk : Disk) (ps : List Pair) → IsAccepted (disk_with_versions OnlyTwoZero disk) ps → IsAccepted (disk_with_versions AlsoTwoOne disk) ps
wider disk ps ok = accepted_as disk OnlyTwoZero AlsoTwoOne ps (λ version e. or_left (version == 0x00020000) (version == 0x00020001) e) ok
