-- Whole operations done at once.
use Rattle.std.proofs.Common.{◌≡◌, Option, Some, None, true, false, inl, inr, refl, sym, ap, ◌∙◌}
use Rattle.cred_phc.specs.Values.{RecordValue}
use Rattle.cred_book.specs.{Works.Task, Works.name_of, Works.same, declared.request.Request.Request}
use Rattle.cred_book.proofs.Equality.{same-Decides}
use Rattle.cred_admin.specs.Marked.{MarkedBook, HeedsMarks, tried, tried_at}
use Rattle.cred_admin.specs.declared.verdict.Verdict.{Verdict}
use Rattle.cred_admin.specs.declared.verdict.Verdict.TheVariants.{Told}
use Rattle.std.specs.FinMap as map
use Rattle.cred_book.specs.declared.request.Reply.TheVariants as reply

pub no_account : (s : MarkedBook) (request : Request) → map.get s.accounts (name_of request) ≡ None → (Told reply.NoAccount, s) ≡ tried s request
unfolding tried
no_account s request is = sym (ap (tried_at s request) is)

-- a commit right behind its begin does the whole operation
pub done_whole : (s new : MarkedBook) (request : Request) (ticket work : Task) (v : Verdict) → work ≡ ticket → ticket.0 ≡ request → map.get s.accounts (name_of request) ≡ Some ticket.1
    → HeedsMarks s new work v → (v, new) ≡ tried s request
done_whole s new request ticket work v as_begun is found h = elim h [
  | inl done ↦ done ∙ ap (λ (w : Task). tried s w.0) as_begun ∙ ap (tried s) is
  | inr out ↦
      let here : map.get s.accounts (name_of work.0) ≡ Some ticket.1 = ap (λ (w : Task). map.get s.accounts (name_of w.0)) as_begun ∙ ap (λ q. map.get s.accounts (name_of q)) is ∙ found in
      let both : Some out.now ≡ Some ticket.1 = sym out.there ∙ here in
      let now_is : out.now ≡ ticket.1 = cc both in
      let copy_is : work.1 ≡ ticket.1 = ap (λ (w : Task). w.1) as_begun in
      let alike : same out.now work.1 ≡ true = (same-Decides out.now work.1).1 (now_is ∙ sym copy_is) in
      absurd (cc (alike, out.other))
]
