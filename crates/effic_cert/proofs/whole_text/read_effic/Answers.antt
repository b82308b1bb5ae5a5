use Rattle.effic_cert.specs.Product.{product_rows, least_version}
use Rattle.effic_cert.specs.declared.version.Version.TheVariants as version
use Rattle.effic_cert.proofs.PartFacts.{written_may}
use Rattle.effic_cert.proofs.whole_text.read_effic.Goals as goal

pub returns-clause-none : goal.returns-clause-none
unfolding product_rows
returns-clause-none c f e cert h =
    c.read.ensures.none f e (record { version = least_version cert.entries; cert = cert })
    (h, written_may cert.entries)

pub returns-clause-none_newer : goal.returns-clause-none_newer
returns-clause-none_newer c f e cert h = c.read.ensures.none f e (record { version = version.Two; cert = cert }) (h, tt)
