-- A question to a session on a fresh disk.
use Rattle.std.proofs.Common.{◌≡◌, true, List, [], ◌∷◌, None, refl, subst, ap, arith}
use Rattle.std.specs.Prelude.{codes}
use Rattle.lfs_model.proofs.Common.{block_count, default_profile, content_at, zero_gstate, Pair, IsAccepted, IsWritable, fresh_pair, empty_tree, read_count, Healthy, mounted_session, IsPerformed, Session, DiskSummary, IsRecovered, IsStep, IsDiskEffectWithLayout, small_image, fresh_state}
use Rattle.lfs_model.specs.session.Operations as ops
use Rattle.lfs_model.proofs.Uniqueness.{one_thread}
use Rattle.lfs_model.proofs.Fresh.{accepted, writable}
use Rattle.lfs_model.proofs.Example.{fresh}
use Rattle.lfs_model.proofs.SessionSteps.{fresh_agrees}
use Rattle.lfs_model.proofs.FreshSession.{surviving}

abbrev pub op : ops.Operation
op = ops.Stat (codes "/")

abbrev around : DiskSummary
around = record { writable = true; profile = default_profile; block_size = 1024; page = 128; block_count = 2; used = 0 ∷ 1 ∷ []; gstate = zero_gstate }

pub carried : (s : Session) (ps qs : List Pair) → IsAccepted small_image ps → IsAccepted small_image qs → IsDiskEffectWithLayout small_image ps s op [] small_image qs
carried s ps qs a b =
    let same = one_thread (content_at small_image) (block_count small_image) ps qs a.thread b.thread in
    record {
      effect = record {
        asks = λ e. (refl, (refl, refl));
        opens = λ e. absurd (cc);
        fills = λ e. absurd (cc);
        recovered = λ e. absurd (cc);
        stays = subst IsRecovered same;
        profile = subst (IsWritable small_image) same;
        silent = λ e. (refl, refl);
        itself = λ e. absurd (cc);
        nothing_left = λ e. absurd (cc);
      };
      arranged = λ e. absurd (cc);
    }

pub turn : IsStep fresh_state op (ops.StatIs None) fresh_state
turn = record {
  answered = record {
    around = around;
    shown = None;
    surrounds = λ session e. (
      fresh_pair small_image ∷ [],
      (
        accepted small_image fresh,
        record { profile = refl; block_size = refl; page = refl; block_count = refl; used = refl; gstate = refl; writable = ((λ e. writable small_image fresh), λ w. refl) },
      ),
    );
    shows = λ e. absurd (cc);
    answers = refl;
  };
  agrees = fresh_agrees small_image fresh;
  geometry = record { block_size = refl; page = refl; order = refl; profile = refl; count = refl };
  calls = [];
  called = refl;
  refused = λ e. absurd (cc);
  remounted = λ e. absurd (cc);
  failed = λ e f. absurd (cc);
  effect_on_disk = λ r s e. carried s;
}

-- without a call
pub silent : turn.calls ≡ []
unfolding turn
silent = refl

-- a stop in it leaves the disk as it is, and it reads nothing
pub asked : IsPerformed None fresh_state op (ops.StatIs None) fresh_state
asked = record {
  turn = turn;
  survives_loss = surviving op (Healthy (mounted_session empty_tree));
  read_bounds = record {
    alone = λ s e ps qs a b g. record { files = λ k d l i f m. refl; pairs = λ p a b n. (refl, refl) };
    asked = λ e. absurd (cc);
    few = λ s e ps a f. let n = ap read_count silent in omega arith;
    kept = λ s e ps a. tt;
  };
}
