use Rattle.std.proofs.{Common.rules, lemmas.List.Sorted.answers_always}
use Rattle.std.specs.Cmp.Lexicographic.{nat_list_cmp_total}
use Rattle.cred_book.specs.Names.{name_cmp}
use Rattle.cred_book.proofs.Entries.{searched}
use Rattle.cred_book.proofs.book.place_of.Goals as goal

-- the closure gives the name of an entry
pub returns : goal.returns
returns c =
    let facts = c.binary_search_by_key.ensures in
    let by_name = facts.position (λ entry. entry.0) (answers_always _ _ _ (λ f a r g called. search rules)) in
    searched name_cmp nat_list_cmp_total _ c.requires c.args.name.now _ facts.bound by_name
