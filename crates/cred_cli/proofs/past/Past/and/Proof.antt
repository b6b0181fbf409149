-- The struct has no bytes, so the walk builds nothing at run time. The walk says that the past
-- gains what the note names. Assumes `Logic`.
use Rattle.std.proofs.{Common.[], Common.◌∷◌, Common.refl, raw_atomic.Walks.proved}
use mir.Syntax.{Args, Dict, a_type, dcons, dnil, named}
use mir.Val.{vstruct, vnil}
use mir.MapTy.{inst_fn}
use types.Kit.{‵, raw, ◌⊛◌, ◌$◌, ◌∵◌, !, qed, keep, split, move, suffices, done}
use types.Part.{agg}
use types.Run.{enter, no_more, returns}
use types.ByLocal.{alloc_all, pass_all, free_all, look_at, sets}
use denote.Exit.{yes}
use denote.Param.{bounded, param}
use denote.RattleType.{RattleType, owns}
use denote.Ref.{shr_vals, shr_Tells}
use denote.Shadow.{pure_i}
use denote.Signature.{plain, types_at}
use denote.Triple.Clauses.{Ended}
use denote.Triple.Entry.{alive}
use denote.Triple.Walked.{says, Stays, stay_none_ref, walk_of, ends_at, Goes-none_ref}
use Rattle.cred_cli.specs.declared.past.Note.{Ghosts as Notes}
use Rattle.cred_cli.specs.contracts.past.Past as past
use Rattle.cred_cli.specs.contracts.past.Past.and as f
use Rattle.cred_cli.proofs.past.Past.and.Statement.{statement}
use Rattle.cred_cli.proofs.past.Past.and.Code as code

abbrev args : RattleType → Dict → Args
args N nd = bounded (a_type ∷ []) (N, tt) (dcons nd dnil)

module _ (N : RattleType) (n : Notes N.Denot) (nd : Dict) where
  abbrev ended : Ended
  ended = f.ended N n nd

  -- the walk changes and keeps nothing of the past and the note
  abbrev stayed : Stays ended.signature.params ended.kept
  stayed = (stay_none_ref (0 ∷ []) tt (plain (λ _. past.the_row)) yes, (stay_none_ref (1 ∷ []) tt (plain (λ _. param 0 N)) yes, tt))

pub and_spec : {M : Type 1} → statement M
and_spec 𝓤 𝓛 𝓜 𝓡 wired N LN n nd notes =
    let T = ended N n nd in
    let hs = stayed N n nd in
    let c = f.clauses N n nd 𝓛 𝓜.mem 𝓡.returns in
    proved 𝓛 T hs c 𝓜 𝓡 (Goes-none_ref 𝓛 3 (0 ∷ []) tt (plain (λ _. past.the_row)) yes, (Goes-none_ref 𝓛 3 (1 ∷ []) tt (plain (λ _. param 0 N)) yes, tt))
    (f.Key.name (args N nd)) (inst_fn (args N nd) code.function) (code.unfolded 𝓤 𝓛.H 𝓜 𝓡 wired (N, tt) nd)
    (λ κs. (shr_vals, (shr_vals, tt))) (λ κs. (shr_Tells (named 0) κs.0 past.the_row, (shr_Tells (named 1) κs.1.0 (param 0 N), tt)))
    (λ κs qs bounds a g are.
    let y : (walk_of 𝓛 T hs c).Ghost = ((κs, qs, bounds, a, (shr_vals a.0, (shr_vals a.1.0, tt))), g) in
    let more : (past.the_row).Denot = n.noted a.1.0.now a.0.now in
    qed 𝓛 ((raw (alive 𝓛 T.signature κs qs) ⊛ ‵ (owns (types_at T.signature.params κs) a y.0.4)) ∷ raw ((c κs a).requires g) ∷ []) ∵
    keep ! (0 ∷ []) $ split ! $
    enter ! _ _ _ _ _ $ alloc_all ! (λ l. pass_all ! refl ((tt, tt), ((tt, tt), tt)) $
    sets ! (agg ! (no_more !)) refl (tt, tt) $
    returns ! (look_at ! 0 refl) $ free_all ! refl $
    suffices ! _ (ends_at 𝓛 T hs c y (vstruct vnil) more (tt, (tt, tt)) (tt, (tt, tt))) $ says ! refl $
    pure_i ! (past.the_row.own_val more (vstruct vnil ∷ [])) ((λ vss. (tt, tt)), tt) ((tt, (refl, tt)), tt) $
    move ! (1 ∷ 2 ∷ 0 ∷ []) $ done !))
