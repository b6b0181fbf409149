use Rattle.std.proofs.Common.{◌≡◌, ◌∷◌, ◌++◌, [], ap, subst, sym, ◌∙◌}
use Rattle.cred_desk.specs.Histories.{IsAllowed, IsListed, after}
use Rattle.cred_desk.proofs.Lists.{after_snoc, listed_snoc}
use Rattle.cred_desk.proofs.publisher.Publisher.show.Goals as goal

pub add-requires-clause-holds : goal.add-requires-clause-holds
add-requires-clause-holds g c =
    let list = c.self.inside.history in
    let allowed : IsAllowed g.J.Naming.loads (after g.J.Naming.opening list) c.args.entry = rw c.self.view_is c.requires.allowed in
    λ listed. listed_snoc g.J.Naming.loads g.J.Naming.opening list c.args.entry listed allowed

pub show-requires : goal.show-requires
show-requires g c =
    let list = c.self.inside.history in
    let allowed : IsAllowed g.J.Naming.loads (after g.J.Naming.opening list) c.args.entry = rw c.self.view_is c.requires.allowed in
    let grown : c.again.result ≡ list ++ c.args.entry ∷ [] = c.again.ensures.same ∙ (c.beginning.ensures ∙ c.add.ensures) in (
      c.self.invariant.spare_listed,
      rw c.self.invariant.spare_book allowed,
      rw (grown, c.self.invariant.spare_book) (sym (after_snoc _ list c.args.entry)),
    )

pub invariant_of-self : goal.invariant_of-self
invariant_of-self g c =
    let list = c.self.inside.history in
    let allowed : IsAllowed g.J.Naming.loads (after g.J.Naming.opening list) c.args.entry = rw c.self.view_is c.requires.allowed in
    let grown : c.add.new.self ≡ list ++ c.args.entry ∷ [] = c.add.ensures in
    let front : c.again.result ≡ c.add.new.self = c.again.ensures.same ∙ c.beginning.ensures in
    record {
      shown_list = c.show.ensures.front ∙ front;
      shown_book = c.show.ensures.book ∙ ap (after g.J.Naming.opening) front;
      spare_listed = rw (c.show.ensures.spare, c.self.invariant.shown_book) (allowed, tt);
      spare_book = rw (c.show.ensures.spare, c.self.invariant.shown_book, grown) (sym (after_snoc _ list c.args.entry));
      listed = subst (IsListed g.J.Naming.loads g.J.Naming.opening) c.beginning.ensures c.again.ensures.holds;
    }
