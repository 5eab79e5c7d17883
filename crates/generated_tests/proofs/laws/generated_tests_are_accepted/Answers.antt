use Rattle.generated_tests.proofs.Tests.{test_accepted}
use Rattle.generated_tests.proofs.Sites.{sites_long, few_sites}
use Rattle.generated_tests.proofs.laws.generated_tests_are_accepted.Goals as goal

pub returns-clause-accepted : goal.returns-clause-accepted
returns-clause-accepted c = test_accepted

pub returns-clause-sites : goal.returns-clause-sites
returns-clause-sites c = sites_long

pub returns-clause-never_too_many : goal.returns-clause-never_too_many
returns-clause-never_too_many c = few_sites
