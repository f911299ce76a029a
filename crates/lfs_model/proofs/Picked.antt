-- A function that makes a value of no bytes, whose ghost field its caller picks. It reads nothing of its two arguments.
use mathlib.Core.Path.{refl, sym, subst}
use mathlib.Core.List.{List, [], ◌∷◌, ◌++◌}
use seplogic.Ra.Ura.{Ura}
use mir.Syntax.{Callee, Fn, Sym, a_type, aggregate, assign, imm, local, named, place, return, seq, tnil, ty_param, ty_ref, ty_struct, value_local}
use mir.Val.{Val, vptr, vstruct, vnil}
use mir.MapTy.{inst_fn}
use base.Logic.{SProp, ent, emp, via, fst∗, snd∗}
use base.Fml.{Fml}
use prog.Model.{Model}
use prog.Wp.{Calls, Closed, Loops, WpFn, Tables}
use types.Logic.{Logic, sem}
use contract.Lifetimes.{Lfts}
use contract.Monad.{fact_use}
use contract.Running.{MachineTables, Running, tables, tables_of}
use sound.WpLaws.{WpFn-mono}
use types.Kit.{‵, raw, ◌⊛◌, ◌$◌, ◌∵◌, !, qed, move, keep, split, join, fjoin, use0, suffices, done}
use types.Run.{no_more, returns, enter}
use types.Part.{agg}
use types.ByLocal.{alloc_all, pass_all, free_all, look_at, sets}
use denote.RattleType.{RattleType, owns}
use denote.Exit.{yes}
use denote.Laws.{Are, Ises, owns_show, showss}
use denote.Param.{param, layouts}
use denote.Builtin.{RefOf}
use denote.Signature.{Signature, types_at, plain}
use denote.Steps.{nothing}
use denote.Triple.Clauses.{AtExit, Clauses, Ended, closing}
use denote.Triple.Entry.{Args, on_entry, alive}
use denote.Triple.Spec.{Meets, triple_of}
use denote.Triple.Table.{entered}
use denote.Triple.Walked.{Stays, stay_dropped, walk_of, Goes-dropped, walk_Meets}
use Rattle.std.proofs.raw_atomic.Walks.{leaves}

-- the struct's name, its row, and the types after the two references
module _ (name : Sym) (row Y Z : RattleType) where
  abbrev R₀ : RattleType
  R₀ = param 0 Y

  abbrev R₁ : RattleType
  R₁ = param 1 Z

  abbrev pub signature : Signature
  signature = record {
    lifetimes = 4;
    outlives = record { long = 2; long_ok = tt; short = named 0; short_ok = tt } ∷ record { long = 3; long_ok = tt; short = named 1; short_ok = tt } ∷ [];
    params = RefOf (0 ∷ []) tt (plain (λ κs. R₀)) (λ κs. tt) ∷ RefOf (1 ∷ []) tt (plain (λ κs. R₁)) (λ κs. tt) ∷ [];
    result = plain (λ κs. row);
  }

  abbrev pub ended : Ended
  ended = record { signature = signature; kept = (yes, (yes, tt)) }

  -- it makes the struct and returns it
  abbrev pub function : Fn
  function = inst_fn (layouts (a_type ∷ a_type ∷ []) (Y, (Z, tt))) (record {
    lifetimes = 2;
    outlives = (2, 0) ∷ (3, 1) ∷ [];
    ty_params = a_type ∷ a_type ∷ [];
    givens = 0;
    params = 2;
    locals = local (ty_struct name tnil) value_local ∷ local (ty_ref (named 0) imm (ty_param 0)) value_local ∷ local (ty_ref (named 1) imm (ty_param 1)) value_local ∷ [];
    body = seq (assign (place 0 []) (aggregate [])) return;
  })

  abbrev stayed : Stays signature.params ended.kept
  stayed = (stay_dropped (RefOf (0 ∷ []) tt (plain (λ _. R₀)) (λ _. tt)) yes, (stay_dropped (RefOf (1 ∷ []) tt (plain (λ _. R₁)) (λ _. tt)) yes, tt))

-- what the caller's pick makes, which owns nothing, and of which the clauses hold
module _ (name : Sym) (row Y Z : RattleType) {M : Type 1} {𝓤 : Ura M} (𝓛 : Logic 𝓤) (c : Clauses 𝓤 (ended name row Y Z))
    (made : (κs : Lfts 4) (a : Args (signature name row Y Z) κs) → (c κs a).ghost → row.Denot)
    (owned : (x : row.Denot) → ent 𝓤 (emp 𝓤) (sem 𝓛 (row.own_val x (vstruct vnil ∷ []))))
    (reported : (κs : Lfts 4) (a : Args (signature name row Y Z) κs) (g : (c κs a).ghost) (e : AtExit (ended name row Y Z) κs) → ent 𝓤 (emp 𝓤) ((c κs a).ensures g (made κs a g) e)) where
  open 𝓛 use {H}

  abbrev T : Ended
  T = ended name row Y Z

  abbrev S : Signature
  S = signature name row Y Z

  abbrev f : Fn
  f = function name row Y Z

  abbrev hs : Stays S.params T.kept
  hs = stayed name row Y Z

  module _ (C : Calls 𝓤 H) (Λ : Loops 𝓤 H) (z : (walk_of 𝓛 T hs c).Ghost) where
    abbrev At : List Val → List Val → (walk_of 𝓛 T hs c).Ghost
    At us ws = ((z.0.0, z.0.1, z.0.2, z.0.3, (us, (ws, tt))), z.1)

    abbrev Goes : List Val → List Val → Type 1
    Goes us ws = ent 𝓤 ((walk_of 𝓛 T hs c).pre (At us ws)) (WpFn 𝓤 H C Λ f (us ++ (ws ++ [])) ((walk_of 𝓛 T hs c).post (At us ws)))

    abbrev p : Val
    p = vptr z.0.3.0.ref_ptr.0 z.0.3.0.ref_ptr.1

    abbrev q : Val
    q = vptr z.0.3.1.0.ref_ptr.0 z.0.3.1.0.ref_ptr.1

    walks : Goes (p ∷ []) (q ∷ [])
    walks =
        let v : Val = vstruct vnil in
        let r : row.Denot = made z.0.0 z.0.3 z.1 in
        let toks : SProp 𝓤 = alive 𝓛 S z.0.0 z.0.1 in
        let passed : Fml = owns (types_at S.params z.0.0) z.0.3 (p ∷ [], (q ∷ [], tt)) in
        qed 𝓛 ((raw toks ⊛ ‵ passed) ∷ raw ((c z.0.0 z.0.3).requires z.1) ∷ []) ∵ split ! $ keep ! (0 ∷ []) $
        enter ! C Λ f (p ∷ q ∷ []) _ $ alloc_all ! (λ l. pass_all ! refl ((tt, tt), ((tt, tt), tt)) $
        sets ! (agg ! (no_more !)) refl (tt, tt) $
        returns ! (look_at ! 0 refl) $ free_all ! refl $
        use0 𝓛 (raw ((c z.0.0 z.0.3).ensures z.1 r (z.0.3.0, (z.0.3.1.0, tt)))) (reported z.0.0 z.0.3 z.1 _) $
        use0 𝓛 (‵ (row.own_val r (v ∷ []))) (owned r) $
        suffices ! _ (leaves 𝓛 T hs c (At (p ∷ []) (q ∷ [])) v r (tt, (tt, tt)) (tt, (tt, tt))) $
        join ! $ nothing ! $ nothing ! $ fjoin ! $ nothing ! $ fjoin ! $ join ! $ move ! (1 ∷ 0 ∷ []) $ join ! $ done !)

  meets : (𝓣 : Tables 𝓤 H) → Meets 𝓛 S (WpFn 𝓤 H 𝓣.C 𝓣.Λ f) (closing 𝓛 T c)
  meets 𝓣 =
      walk_Meets 𝓛 T hs (
        Goes-dropped 𝓛 4 (RefOf (0 ∷ []) tt (plain (λ _. R₀ name row Y Z)) (λ _. tt)) yes (λ κs x g. refl),
        (Goes-dropped 𝓛 4 (RefOf (1 ∷ []) tt (plain (λ _. R₁ name row Y Z)) (λ _. tt)) yes (λ κs x g. refl), tt),
      ) c
      (WpFn 𝓤 H 𝓣.C 𝓣.Λ f) (WpFn-mono 𝓤 H 𝓛.laws 𝓣 f)
      (λ z. let a = z.0.3 in let vss = z.0.4 in let Rs : List RattleType = types_at S.params z.0.0 in
      fact_use 𝓤 (Are Rs (Ises Rs) a vss) (via 𝓤 (sem 𝓛 (owns Rs a vss)) (via 𝓤 (on_entry 𝓛 S z.0.0 z.0.1 a vss) (fst∗ 𝓤 (on_entry 𝓛 S z.0.0 z.0.1 a vss) ((c z.0.0 a).requires z.1)) (snd∗ 𝓤 (alive 𝓛 S z.0.0 z.0.1) (sem 𝓛 (owns Rs a vss)))) (owns_show 𝓛 Rs (Ises Rs) (showss 𝓛 Rs) a vss)) (λ are.
      subst (λ (us : List Val). Goes 𝓣.C 𝓣.Λ z us vss.1.0) (sym are.0.0) (subst (λ (ws : List Val). Goes 𝓣.C 𝓣.Λ z (p 𝓣.C 𝓣.Λ z ∷ []) ws) (sym are.1.0.0) (walks 𝓣.C 𝓣.Λ z))))

  module _ (𝓜 : Model 𝓤 H) (𝓡 : Running 𝓤 H 𝓜) where
    abbrev 𝓣 : MachineTables 𝓤 H 𝓜
    𝓣 = tables 𝓤 H 𝓜 𝓡 𝓡.env

    -- the function meets the clauses, where it is known as k
    pub picked : (k : Callee) → Closed 𝓤 H 𝓣.C 𝓣.Λ k f → Meets 𝓛 S (𝓣.C k) (closing 𝓛 T c)
    unfolding tables_of
    picked k closed = entered 𝓤 H (triple_of 𝓛 S (closing 𝓛 T c)) 𝓣.C 𝓣.Λ k f closed (meets (tables_of 𝓤 H 𝓜 𝓣))
