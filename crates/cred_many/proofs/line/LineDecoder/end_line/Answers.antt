use Rattle.std.proofs.Common.{◌≡◌, ℕ, suc, ◌+◌, List, ap, ◌∙◌, arith}
use Rattle.rand_core.specs.Stream.{Stream, fill_bytes}
use Rattle.cred_phc.specs.Values.{setting_of}
use Rattle.cred_many.specs.{Reading.place, Service.Service, Service.drawn_setting, Service.salts_after}
use Rattle.cred_many.proofs.Lines.{kept_came}
use Rattle.cred_many.proofs.line.LineDecoder.end_line.Goals as goal

module _ (s : Service) (n : ℕ) (salt : List ℕ) (old new : Stream) (at : old ≡ salts_after s.salts n) (drawn : (salt, new) ≡ fill_bytes 16 old) where
  -- the setting of this salt is the line's
  setting_drawn : setting_of s.costs salt ≡ drawn_setting s n
  setting_drawn = ap (setting_of s.costs) (ap (λ d. d.0) drawn ∙ ap (λ st. (fill_bytes 16 st).0) at)

  -- and the source is one salt further
  salts_on : new ≡ salts_after s.salts (n + 1)
  salts_on = let next : suc n ≡ n + 1 = omega arith in ap (λ d. d.1) drawn ∙ ap (λ st. (fill_bytes 16 st).1) at ∙ ap (salts_after s.salts) next

pub read-line-requires-clause-came : goal.read-line-requires-clause-came
read-line-requires-clause-came g c =
    let s = g.J.ServiceId.service in
    let drawn = c.setting-drawn.ensures.setting ∙ ap (λ k. setting_of k c.draw_salt-salt.result) c.args.self.now.costs_are ∙ setting_drawn s c.args.self.now.number c.draw_salt-salt.result _ _ c.args.self.now.drawn c.draw_salt-salt.ensures in
    rw c.bytes.ensures (kept_came s s.input (place c.args.self.now.start c.args.self.now.number) c.args.self.now.most c.setting-drawn.result c.args.self.now.most_is drawn c.requires.whole)

pub invariant_of-self : goal.invariant_of-self
invariant_of-self g c = record {
  costs_are = c.args.self.now.costs_are;
  most_is = c.args.self.now.most_is;
  drawn = salts_on g.J.ServiceId.service c.args.self.now.number c.draw_salt-salt.result _ _ c.args.self.now.drawn c.draw_salt-salt.ensures;
}
